use Rattle.std.proofs.Common.{arith, pos, ◌-ℤ◌, ◌*ℤ◌, FitsSigned}
use Rattle.std.specs.Int.{w128}
use Rattle.std.proofs.lemmas.Int.{ints, to_z-of_z}
use Rattle.std.proofs.lemmas.Bool.Decides.{nat_tests}
use Rattle.demix_layers.proofs.steps.three.Goals as goal

pub returns-then-test-clause-value : goal.returns-then-test-clause-value
returns-then-test-clause-value c =
    let two : FitsSigned w128 c.args.two = c.ranges.two in
    let center : FitsSigned w128 c.args.center = c.ranges.center in
    let a : FitsSigned w128 (pos 1000 *ℤ c.args.two) = omega (arith, ints) in
    let b : FitsSigned w128 (pos 707 *ℤ c.args.center) = omega (arith, ints) in
    let d : FitsSigned w128 (pos 1000 *ℤ c.args.two -ℤ pos 707 *ℤ c.args.center) = omega (arith, ints) in
    simp to_z-of_z (grind (arith, nat_tests))
