use Rattle.std.proofs.Common.{arith, ◌<◌, ◌≤◌, ◌^◌, ◌*◌, ℤ, get_or, pos, unsigned_abs, sym, subst}
use Rattle.spec_play.specs.FixedMix.{gained}
use Rattle.iamf_mixing.proofs.GainBounds.{gained_small}
use Rattle.iamf_mixing.proofs.sums.apply_gains.Goals as goal

pub returns-clause-small : goal.returns-clause-small
returns-clause-small c = λ k h.
    let was = get_or c.args.channels.now k (pos 0) in
    let most : unsigned_abs was < 2 ^ 67 = c.requires.channels k (pos 0) h in
    let small : unsigned_abs (gained was c.args.gain) ≤ 40 * 2 ^ 67 = gained_small was c.args.gain (2 ^ 67) most c.requires.gain in
    let fits : unsigned_abs (gained was c.args.gain) ≤ 2 ^ 73 = omega arith in
    subst (λ (z : ℤ). unsigned_abs z ≤ 2 ^ 73) (sym (c.apply_output.ensures.value k h)) fits
