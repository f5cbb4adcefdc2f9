use Rattle.std.proofs.Common.{rules, FitsSigned}
use Rattle.std.specs.Int.{w128}
use Rattle.std.proofs.lemmas.Int.{to_z-of_z}
use Rattle.spec_gains.specs.Modes.{coefficients_of}
use Rattle.spec_demix.specs.FixedWalk.{side_units}
use Rattle.spec_demix.specs.Sent.{side_of}
use Rattle.mix_fixed.proofs.StepLemmas.{side_is}
use Rattle.mix_fixed.proofs.steps.side.Goals as goal

pub returns-clause-value : goal.returns-clause-value
returns-clause-value c =
    let two : FitsSigned w128 c.args.two = c.ranges.two in
    let share : FitsSigned w128 c.args.share = c.ranges.share in
    let three : FitsSigned w128 c.three-three.result = search rules in
    let five : FitsSigned w128 c.sample-five.result = search rules in
    let surround : FitsSigned w128 c.surround-surround.result = search rules in
    let side : FitsSigned w128 c.sample-side.result = search rules in
    let rear : FitsSigned w128 c.rear-rear.result = search rules in
    let a = simp to_z-of_z at c.three-three.ensures.value in
    let d = c.sample-five.ensures.value in
    let b = simp to_z-of_z at c.surround-surround.ensures.value in
    let e = c.sample-side.ensures.value in
    let f = simp to_z-of_z at c.rear-rear.ensures in
    simp to_z-of_z (side_is c.args.origins.now (coefficients_of c.args.mode) c.args.two c.args.share (side_units (side_of c.args.coded.now c.args.sent.now)) _ _ _ _ _ a d b e f)
