use Rattle.spec_samples.proofs.FrameLaws.{mirror}
use Rattle.spec_samples.proofs.byte_orders_mirror.Goals as goal

pub returns : goal.returns
returns c = mirror
