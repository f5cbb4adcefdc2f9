use Rattle.std.proofs.Common.{rules, FitsSigned}
use Rattle.std.specs.Int.{w128}
use Rattle.std.proofs.lemmas.Int.{to_z-of_z}
use Rattle.spec_gains.specs.Modes.{coefficients_of}
use Rattle.demix_layers.proofs.StepLemmas.{tops_are}
use Rattle.demix_layers.proofs.steps.tops_step.Goals as goal

pub returns-clause-value : goal.returns-clause-value
returns-clause-value c =
    let s : FitsSigned w128 c.args.surround = c.ranges.surround in
    let share : FitsSigned w128 c.weighed.result = search rules in
    let two : FitsSigned w128 c.top_two-two.result = search rules in
    let three : FitsSigned w128 c.sent_or_old.result = search rules in
    let four : FitsSigned w128 c.sent_or_old-2.result = search rules in
    let back : FitsSigned w128 c.top_back.result = search rules in
    let o2 : FitsSigned w128 c.args.old.now.two = search rules in
    let o3 : FitsSigned w128 c.args.old.now.three = search rules in
    let o4 : FitsSigned w128 c.args.old.now.four = search rules in
    let ob : FitsSigned w128 c.args.old.now.back = search rules in
    let s2 : FitsSigned w128 c.args.sent.now.two = search rules in
    let s3 : FitsSigned w128 c.args.sent.now.three = search rules in
    let s4 : FitsSigned w128 c.args.sent.now.four = search rules in
    let sb : FitsSigned w128 c.args.sent.now.back = search rules in
    let times : FitsSigned w128 c.times.result = search rules in
    let g = simp to_z-of_z at c.times.ensures.value in
    let f = simp to_z-of_z at c.weighed.ensures.value in
    let a = simp to_z-of_z at c.top_two-two.ensures.value in
    let b = simp to_z-of_z at c.sent_or_old.ensures.value in
    let d = simp to_z-of_z at c.sent_or_old-2.ensures.value in
    let e = simp to_z-of_z at c.top_back.ensures.value in
    simp to_z-of_z (tops_are c.args.before c.args.now (coefficients_of c.args.params.mode) c.args.params.weight c.args.surround c.args.old.now c.args.sent.now _ _ _ _ _ _ _ _ _ _ _ _ c.leaves_three.ensures c.gives_two.ensures c.gives_three.ensures c.gives_four.ensures c.splits_two.ensures c.gives_back.ensures f g a b d e)
