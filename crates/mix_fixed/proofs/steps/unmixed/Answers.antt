use Rattle.std.proofs.Common.{arith, rules, pos, ◌-ℤ◌, ◌*ℤ◌, ◌^◌, FitsSigned}
use Rattle.std.specs.Int.{w128}
use Rattle.std.proofs.lemmas.Int.{ints, to_z-of_z}
use Rattle.mix_fixed.proofs.FloorSizes.{unmixed_most}
use Rattle.mix_fixed.proofs.steps.unmixed.Goals as goal

pub returns : goal.returns
returns c =
    let whole : FitsSigned w128 c.args.whole = c.ranges.whole in
    let part : FitsSigned w128 c.args.part = c.ranges.part in
    let gap : FitsSigned w128 (c.args.whole -ℤ c.args.part) = omega (arith, ints) in
    let top : FitsSigned w128 (pos 1000 *ℤ (c.args.whole -ℤ c.args.part)) = omega (arith, ints) in
    let r : FitsSigned w128 c.floor.result = search rules in
    let e = simp to_z-of_z at c.floor.ensures in
    simp to_z-of_z (record { value = e; most = rw e (unmixed_most (2 ^ 58) c.args.whole c.args.part c.args.coefficient (omega arith) c.requires.least c.requires.most c.requires.whole c.requires.part) })
