use Rattle.std.proofs.Common.{rules, ◌≡◌, ℤ, FitsSigned, ap, sym, refl, ◌∙◌}
use Rattle.std.specs.Int.{w64, w128}
use Rattle.std.proofs.lemmas.Int.{to_z-of_z}
use Rattle.spec_gains.specs.Modes.{coefficients_of}
use Rattle.spec_demix.specs.declared.Side.{Side}
use Rattle.mix_fixed.specs.Origins.{tops_from}
use Rattle.mix_fixed.specs.Scaled.{bed_by}
use Rattle.mix_fixed.proofs.StepLemmas.{all_are}
use Rattle.mix_fixed.proofs.narrow.bed.Goals as goal

pub returns : goal.returns
returns g c =
    let o = c.args.origins.now in
    let mode = coefficients_of c.args.params.mode in
    let w = c.args.params.weight in
    let sent = bed_by c.args.coded.now c.args.sent.now in
    let rm : FitsSigned w64 c.sample-mono.result = search rules in
    let rc : FitsSigned w64 c.sample-center.result = search rules in
    let rf : FitsSigned w64 c.sample-low.result = search rules in
    let rl : FitsSigned w64 c.sample-left.result = search rules in
    let rr : FitsSigned w64 c.two_right-right.result = search rules in
    let f : FitsSigned w128 c.from.result = search rules in
    let f2 : FitsSigned w128 c.from-2.result = search rules in
    let f3 : FitsSigned w128 c.from-3.result = search rules in
    let k : c.from.result ≡ c.sample-mono.result = simp to_z-of_z at c.from.ensures in
    let k2 : c.from-2.result ≡ c.sample-center.result = simp to_z-of_z at c.from-2.ensures in
    let k3 : c.from-3.result ≡ c.sample-low.result = simp to_z-of_z at c.from-3.ensures in
    let e = simp to_z-of_z at c.two_right-right.ensures.value in
    let ears_left = simp to_z-of_z at c.ears-ears.ensures.left in
    let ears_right = simp to_z-of_z at c.ears-ears.ensures.right in
    let left = c.left.ensures ∙ ears_left in
    let right = c.right.ensures ∙ ears_right in
    let left_top = c.left-2.ensures ∙ (c.heights-heights.ensures.left ∙ ap (λ (x : ℤ). tops_from o mode w x sent.left_top) (sym (ap (λ (s : Side). s.surround) c.left.ensures))) in
    let right_top = c.right-2.ensures ∙ (c.heights-heights.ensures.right ∙ ap (λ (x : ℤ). tops_from o mode w x sent.right_top) (sym (ap (λ (s : Side). s.surround) c.right.ensures))) in
    simp to_z-of_z (rw (k, k2, k3) (all_are o mode w sent _ _ _ _ _ _ _ _ _ _ c.sample-mono.ensures.value c.sample-center.ensures.value c.sample-low.ensures.value c.sample-left.ensures.value e refl left right left_top right_top))
