use Rattle.std.proofs.Common.{arith, rules, ◌≡◌, ◌≤◌, ◌*◌, ◌+ℤ◌, ◌*ℤ◌, unsigned_abs, FitsSigned, refl}
use Rattle.std.specs.Int.{w64}
use Rattle.std.proofs.lemmas.Int.{ints, to_z-of_z, unsigned_abs-mul}
use Rattle.mix_fixed.specs.Quiet.{hundredth}
use Rattle.mix_fixed.proofs.Held.{held}
use Rattle.mix_fixed.proofs.narrow.scale.Goals as goal

-- the product and the sum fit 64 bits, and the sum is small
sum : (c : goal.After-part_of) → FitsSigned w64 (c.args.y *ℤ c.args.whole) × FitsSigned w64 (c.args.y *ℤ c.args.whole +ℤ c.part_of.result) × (unsigned_abs (c.args.y *ℤ c.args.whole +ℤ c.part_of.result) ≤ 100 * hundredth)
sum c =
    let a = c.requires.whole in
    let m = c.part_of.ensures.small in
    let d : unsigned_abs (c.args.y *ℤ c.args.whole) ≡ unsigned_abs c.args.y * unsigned_abs c.args.whole = unsigned_abs-mul c.args.y c.args.whole in
    (omega (arith, ints, a, d), omega (arith, ints, a, d, m), omega (arith, ints, a, d, m))

-- so it is what 64 bits hold
sum_is : (c : goal.After-part_of) → held (held c.args.y *ℤ held c.args.whole) +ℤ held c.part_of.result ≡ c.args.y *ℤ c.args.whole +ℤ c.part_of.result
sum_is c =
    let fy : FitsSigned w64 c.args.y = c.ranges.y in
    let fw : FitsSigned w64 c.args.whole = c.ranges.whole in
    let ff : FitsSigned w64 c.part_of.result = search rules in
    let u = (sum c).0 in
    simp to_z-of_z

pub overflow_add-result : goal.overflow_add-result
overflow_add-result c = rw (sum_is c) (sum c).1

pub returns : goal.returns
returns c =
    let fy : FitsSigned w64 c.args.y = c.ranges.y in
    let fr : FitsSigned w64 c.args.rest = c.ranges.rest in
    let all = (sum c).1 in
    let k = simp to_z-of_z at c.part_of.ensures.value in
    rw (sum_is c) (simp to_z-of_z (record { value = rw k refl; most = (sum c).2 }))
