use Rattle.spec_gains.proofs.ModeLemmas.{mode_bounded}
use Rattle.spec_gains.proofs.laws.modes_are_bounded.Goals as goal

pub returns : goal.returns
returns c = mode_bounded
