use Rattle.std.proofs.Common.{arith, rules, pos, ◌-ℤ◌, ◌*ℤ◌, ◌^◌, FitsSigned}
use Rattle.std.specs.Int.{w128}
use Rattle.std.proofs.lemmas.Int.{ints, to_z-of_z}
use Rattle.mix_fixed.proofs.FloorSizes.{behind_most}
use Rattle.mix_fixed.proofs.steps.behind.Goals as goal

pub returns : goal.returns
returns c =
    let surround : FitsSigned w128 c.args.surround = c.ranges.surround in
    let side : FitsSigned w128 c.args.side = c.ranges.side in
    let more : FitsSigned w128 (pos 1000 *ℤ c.args.surround) = omega (arith, ints) in
    let top : FitsSigned w128 (pos 1000 *ℤ c.args.surround -ℤ c.args.side) = omega (arith, ints) in
    let r : FitsSigned w128 c.floor.result = search rules in
    let e = simp to_z-of_z at c.floor.ensures in
    simp to_z-of_z (record { value = e; most = rw e (behind_most (2 ^ 58) c.args.surround c.args.side c.args.beta (omega arith) c.requires.least c.requires.most c.requires.surround c.requires.side) })
