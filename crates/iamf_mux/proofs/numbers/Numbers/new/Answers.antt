use Rattle.std.proofs.Common.{refl}
use Rattle.iamf_mux.proofs.ToldNumbers.{none_told}
use Rattle.iamf_mux.proofs.numbers.Numbers.new.Goals as goal

pub returns-clause-none : goal.returns-clause-none
returns-clause-none c = none_told _ refl c.new.ensures.none
