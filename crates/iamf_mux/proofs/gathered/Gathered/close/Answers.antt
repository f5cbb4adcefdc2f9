use Rattle.std.proofs.Common.{ℕ, List, ◌+◌, sym, subst, refl, arith}
use Rattle.std.specs.Borrow.{Bor}
use Rattle.iamf_mux.specs.Ranges.{AreRanges, parts}
use Rattle.iamf_mux.proofs.Ranges.{past_more, one_slice}
use Rattle.iamf_mux.proofs.gathered.Gathered.close.Goals as goal

pub returns-in_ok-push-clause-sliced : goal.returns-in_ok-push-clause-sliced
returns-in_ok-push-clause-sliced c = λ are.
    let g = c.args.self.now in
    subst (λ (slices : List (Bor (List ℕ))). AreRanges g.bytes.now 0 (parts slices) (g.end + 1)) (sym c.in_ok-push.ensures.items) (one_slice g.bytes.now g.units.items _ g.start g.start g.end are (omega arith) (omega (arith, c.if-self.true)) refl)

pub returns-else-self-clause-sliced : goal.returns-else-self-clause-sliced
returns-else-self-clause-sliced c = λ are.
    let g = c.args.self.now in
    past_more g.bytes.now 0 (parts g.units.items) g.start (g.end + 1) are (omega (arith, g.within.0))
