use Rattle.std.proofs.Common.{arith, ◌≡◌, ◌<◌, ◌≤◌, ◌^◌, ◌*◌, ℤ, pos, get_or, unsigned_abs, sym, subst, ap, ◌∙◌}
use Rattle.std.proofs.lemmas.List.{get_or_default}
use Rattle.spec_play.specs.FixedMix.{gained}
use Rattle.iamf_mixing.proofs.GainBounds.{gained_small, gained_by_one}
use Rattle.iamf_mixing.proofs.output.apply_output.Goals as goal

pub returns-then-gain-eq-ONE : goal.returns-then-gain-eq-ONE
returns-then-gain-eq-ONE c = record {
  value = λ k h. let was = get_or c.args.sums.now k (pos 0) in gained_by_one was ∙ ap (λ g. gained was g) (sym c.if-gain-eq-ONE.true);
  small = λ k d h. let few = c.requires.sums k d h in omega arith;
}

pub returns-clause-small : goal.returns-clause-small
returns-clause-small c = λ k d h.
    let same : get_or c.loop-c.sums k d ≡ get_or c.loop-c.sums k (pos 0) = get_or_default c.loop-c.sums k d (pos 0) h in
    let was = get_or c.args.sums.now k (pos 0) in
    let value : get_or c.loop-c.sums k (pos 0) ≡ gained was c.args.gain = c.loop-c.invariant.done k (omega arith) in
    let most : unsigned_abs was < 2 ^ 78 = c.requires.sums k (pos 0) (omega arith) in
    let small : unsigned_abs (gained was c.args.gain) ≤ 40 * 2 ^ 78 = gained_small was c.args.gain (2 ^ 78) most c.requires.gain in
    let fits : unsigned_abs (gained was c.args.gain) < 2 ^ 126 = omega arith in
    subst (λ (z : ℤ). unsigned_abs z < 2 ^ 126) (sym (same ∙ value)) fits
