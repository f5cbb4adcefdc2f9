use Rattle.std.proofs.Common.{rules, FitsSigned}
use Rattle.std.specs.Int.{w128}
use Rattle.std.proofs.lemmas.Int.{to_z-of_z}
use Rattle.spec_gains.specs.Modes.{coefficients_of}
use Rattle.spec_demix.specs.FixedWalk.{bed_units}
use Rattle.spec_demix.specs.Sent.{bed_of}
use Rattle.mix_fixed.proofs.StepLemmas.{all_are}
use Rattle.mix_fixed.proofs.steps.bed.Goals as goal

pub returns : goal.returns
returns c =
    let rm : FitsSigned w128 c.sample-mono.result = search rules in
    let rc : FitsSigned w128 c.sample-center.result = search rules in
    let rf : FitsSigned w128 c.sample-low.result = search rules in
    let rl : FitsSigned w128 c.sample-left_two.result = search rules in
    let rr : FitsSigned w128 c.two_right-right_two.result = search rules in
    let rs : FitsSigned w128 c.share_of_center-share.result = search rules in
    let sl : FitsSigned w128 c.side-left.result.surround = search rules in
    let sr : FitsSigned w128 c.side-right.result.surround = search rules in
    let m = c.sample-mono.ensures.value in
    let a = c.sample-center.ensures.value in
    let b = c.sample-low.ensures.value in
    let d = c.sample-left_two.ensures.value in
    let e = simp to_z-of_z at c.two_right-right_two.ensures.value in
    let s = simp to_z-of_z at c.share_of_center-share.ensures.value in
    let f = simp to_z-of_z at c.side-left.ensures.value in
    let g = simp to_z-of_z at c.side-right.ensures.value in
    let h = simp to_z-of_z at c.tops-left_top.ensures in
    let i = simp to_z-of_z at c.tops-right_top.ensures in
    simp to_z-of_z (all_are c.args.origins.now (coefficients_of c.args.params.mode) c.args.params.weight (bed_units (bed_of c.args.coded.now c.args.origins.now.sent)) _ _ _ _ _ _ _ _ _ _ m a b d e s f g h i)
