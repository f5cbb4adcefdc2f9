use Rattle.spec_gains.proofs.GainLemmas.{coarse_rises}
use Rattle.spec_gains.proofs.laws.coarse_gains_rise.Goals as goal

pub returns : goal.returns
returns c = coarse_rises
