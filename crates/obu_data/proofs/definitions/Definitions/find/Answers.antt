use Rattle.std.proofs.Common.{sym, arith}
use Rattle.obu_data.proofs.Index.{found, not_found}
use Rattle.obu_data.proofs.definitions.Definitions.find.Goals as goal

pub prove-unreachable-requires : goal.prove-unreachable-requires
prove-unreachable-requires c = let f = (found _ _ _ _ c.self.invariant (sym c.in-Some.ensures.value)).within in omega (arith, f, rw c.as_slice-list.ensures.value at c.if-prove.true)

pub returns-in-Some-clause-finds : goal.returns-in-Some-clause-finds
returns-in-Some-clause-finds c =
    rw (← c.self.view_is, c.as_slice-list.ensures.value) ((found _ _ _ _ c.self.invariant (sym c.in-Some.ensures.value)).shape c.index-list-place.result)

pub returns-in-Some-clause-allowed : goal.returns-in-Some-clause-allowed
returns-in-Some-clause-allowed c = rw c.as_slice-list.ensures.value ((found _ _ _ _ c.self.invariant (sym c.in-Some.ensures.value)).allowed c.index-list-place.result)

pub returns-in-None-clause-finds : goal.returns-in-None-clause-finds
returns-in-None-clause-finds c = rw (← c.self.view_is) (not_found _ _ _ c.self.invariant (sym c.in-None.ensures.value))
