use Rattle.std.proofs.Common.{arith, pos, ◌-ℤ◌, ◌*ℤ◌, FitsSigned, refl}
use Rattle.std.specs.Int.{w64}
use Rattle.std.proofs.lemmas.Int.{ints, to_z-of_z}
use Rattle.mix_fixed.proofs.narrow.two_right.Goals as goal

pub returns-then-follows-clause-value : goal.returns-then-follows-clause-value
returns-then-follows-clause-value g c =
    let mono : FitsSigned w64 c.args.mono = c.ranges.mono in
    let left : FitsSigned w64 c.args.left = c.ranges.left in
    let twice : FitsSigned w64 (pos 2 *ℤ c.args.mono) = omega (arith, ints) in
    let right : FitsSigned w64 (pos 2 *ℤ c.args.mono -ℤ c.args.left) = omega (arith, ints) in
    simp to_z-of_z (rw c.if-follows.true refl)
