use Rattle.std.proofs.Common.{rules, FitsSigned}
use Rattle.std.specs.Int.{w128}
use Rattle.std.proofs.lemmas.Int.{to_z-of_z}
use Rattle.spec_gains.specs.Modes.{coefficients_of}
use Rattle.spec_demix.specs.FixedWalk.{tops_units}
use Rattle.spec_demix.specs.Sent.{tops_of}
use Rattle.mix_fixed.proofs.StepLemmas.{tops_are}
use Rattle.mix_fixed.proofs.steps.tops.Goals as goal

pub returns : goal.returns
returns c =
    let s : FitsSigned w128 c.args.surround = c.ranges.surround in
    let three : FitsSigned w128 c.sample-three.result = search rules in
    let two : FitsSigned w128 c.top_two-two.result = search rules in
    let four : FitsSigned w128 c.sample-four.result = search rules in
    let back : FitsSigned w128 c.top_back-back.result = search rules in
    let a = c.sample-three.ensures.value in
    let b = simp to_z-of_z at c.top_two-two.ensures.value in
    let d = c.sample-four.ensures.value in
    let e = simp to_z-of_z at c.top_back-back.ensures in
    simp to_z-of_z (tops_are c.args.origins.now (coefficients_of c.args.params.mode) c.args.params.weight c.args.surround (tops_units (tops_of c.args.coded.now c.args.sent.now)) _ _ _ _ a b d e)
