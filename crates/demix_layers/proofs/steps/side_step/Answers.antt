use Rattle.std.proofs.Common.{rules, FitsSigned}
use Rattle.std.specs.Int.{w128}
use Rattle.std.proofs.lemmas.Int.{to_z-of_z}
use Rattle.spec_gains.specs.Modes.{coefficients_of}
use Rattle.demix_layers.proofs.StepLemmas.{side_is}
use Rattle.demix_layers.proofs.steps.side_step.Goals as goal

pub returns-clause-value : goal.returns-clause-value
returns-clause-value c =
    let two : FitsSigned w128 c.args.two = c.ranges.two in
    let center : FitsSigned w128 c.args.center = c.ranges.center in
    let three : FitsSigned w128 c.three-three.result = search rules in
    let surround : FitsSigned w128 c.surround-surround.result = search rules in
    let five : FitsSigned w128 c.sent_or_old.result = search rules in
    let side : FitsSigned w128 c.sent_or_old-2.result = search rules in
    let rear : FitsSigned w128 c.rear.result = search rules in
    let o3 : FitsSigned w128 c.args.old.now.three = search rules in
    let o5 : FitsSigned w128 c.args.old.now.five = search rules in
    let os : FitsSigned w128 c.args.old.now.surround = search rules in
    let o7 : FitsSigned w128 c.args.old.now.side = search rules in
    let or : FitsSigned w128 c.args.old.now.rear = search rules in
    let s5 : FitsSigned w128 c.args.sent.now.five = search rules in
    let s7 : FitsSigned w128 c.args.sent.now.side = search rules in
    let beside : FitsSigned w128 c.times-beside.result = search rules in
    let b' = simp to_z-of_z at c.times-beside.ensures.value in
    let a = simp to_z-of_z at c.three-three.ensures.value in
    let b = simp to_z-of_z at c.surround-surround.ensures.value in
    let d = simp to_z-of_z at c.sent_or_old.ensures.value in
    let e = simp to_z-of_z at c.sent_or_old-2.ensures.value in
    let f = simp to_z-of_z at c.rear.ensures.value in
    simp to_z-of_z (side_is c.args.before c.args.now (coefficients_of c.args.mode) c.args.two c.args.center c.args.old.now c.args.sent.now _ _ _ _ _ _ _ _ _ _ c.is_reached.ensures c.is_reached-fifth.ensures c.is_reached-seventh.ensures c.product.ensures.value b' a b d e f)
