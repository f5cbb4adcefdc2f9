use Rattle.spec_samples.proofs.FrameLaws.{fit}
use Rattle.spec_samples.proofs.samples_fit.Goals as goal

pub returns : goal.returns
returns c = fit
