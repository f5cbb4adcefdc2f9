use Rattle.spec_gains.proofs.GainLemmas.{gain_most}
use Rattle.spec_gains.proofs.laws.gains_are_bounded.Goals as goal

pub returns : goal.returns
returns c = gain_most
