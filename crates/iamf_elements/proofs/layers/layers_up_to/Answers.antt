use Rattle.std.proofs.Common.{arith, ◌≡◌, ◌+◌, suc, sym, ◌∙◌}
use Rattle.iamf_elements.proofs.Walks.{found_here, found_nowhere}
use Rattle.iamf_elements.proofs.layers.layers_up_to.Goals as goal

pub returns-then-is_of : goal.returns-then-is_of
returns-then-is_of c =
    let next : c.loop-i.i + 1 ≡ suc c.loop-i.i = omega arith in
    rw next (sym (found_here c.args.layout c.args.layers.now c.loop-i.i (omega arith) c.loop-i.invariant (sym c.is_of.ensures ∙ c.if-is_of.true)))

pub returns : goal.returns
returns c = sym (found_nowhere c.args.layout c.args.layers.now (λ k h. c.loop-i.invariant k (omega arith)))
