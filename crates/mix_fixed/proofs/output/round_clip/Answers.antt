use Rattle.std.proofs.Common.{arith, ◌^◌, pos, ◌+ℤ◌, ◌<ℤ◌, ◌≤ℤ◌, ◌*◌, ◌/◌, ◌+◌, ◌≤◌, unsigned_abs, ◌∙◌}
use Rattle.std.proofs.lemmas.Int.{ints}
use Rattle.mix_fixed.proofs.Clips.{rounded_within, narrowed, lifted, quotient_below}
use Rattle.mix_fixed.proofs.output.round_clip.Goals as goal

pub returns-then-above-from : goal.returns-then-above-from
returns-then-above-from c =
    let v = c.args.value in
    let h = c.half_range-half.result in
    let value = c.half_range-half.ensures.value in
    let small : h ≤ 2147483648 = rw value c.half_range-half.ensures.small in
    let n = 134217728 + h * 268435456 in
    let most : n ≤ 2 ^ 60 = omega (arith, small) in
    let wide = lifted v c.from.result n c.requires.value c.from.ensures most in
    let few = c.requires.value in
    let from = c.from.ensures in
    let l : pos 0 ≤ℤ (v +ℤ pos n) = let low = c.if-above-ge0.true in omega (arith, ints) in
    let u : (v +ℤ pos n) <ℤ pos (h * 536870912) =
    let high = c.if-above-from.true in
    let bound = c.from-then-above-ge0.ensures in
    omega (arith, ints) in
    rw wide (rw (← value) (narrowed (unsigned_abs (v +ℤ pos n) / 268435456) h (quotient_below (v +ℤ pos n) h l u) small ∙ rounded_within v h l u))
