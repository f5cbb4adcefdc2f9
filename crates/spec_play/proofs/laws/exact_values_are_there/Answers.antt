use Rattle.spec_play.proofs.PlayableMixes.{some_exact}
use Rattle.spec_play.proofs.laws.exact_values_are_there.Goals as goal

pub returns : goal.returns
returns c = some_exact
