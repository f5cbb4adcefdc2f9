use Rattle.spec_samples.proofs.FrameLaws.{tile}
use Rattle.spec_samples.proofs.samples_tile.Goals as goal

pub returns : goal.returns
returns c = tile
