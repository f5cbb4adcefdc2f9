use Rattle.std.proofs.Common.{rules, arith, FitsSigned, ◌≤ℤ◌, ◌<ℤ◌, ◌*ℤ◌, ◌+ℤ◌, ◌^◌, ◌≤◌, unsigned_abs, pos, sym, ◌∙◌}
use Rattle.std.specs.Int.{w64, w128}
use Rattle.std.proofs.lemmas.Int.{ints, to_z-of_z}
use Rattle.demix_layers.proofs.Floors.{rest-low, rest-high}
use Rattle.mix_fixed.proofs.UnitsInTwo.{units_in_two, whole_most, rest_most}
use Rattle.mix_fixed.proofs.samples.short_units.Goals as goal

pub returns : goal.returns
returns c =
    let p = c.args.parts in
    let w = c.div_euclid-whole.result in
    let r = c.rem_euclid-rest.result in
    let q = c.div_euclid.result in
    let fp : FitsSigned w64 p = c.ranges.parts in
    let fw : FitsSigned w64 w = search rules in
    let fr : FitsSigned w64 r = search rules in
    let fq : FitsSigned w64 q = search rules in
    let kw = simp to_z-of_z at c.div_euclid-whole.ensures in
    let kr = simp to_z-of_z at c.rem_euclid-rest.ensures.value in
    let low : pos 0 ≤ℤ r = rw kr (rest-low p 1000000000000) in
    let high : r <ℤ pos 1000000000000 = rw kr (rest-high p 1000000000000 (omega arith)) in
    let more : FitsSigned w64 (r *ℤ pos 65536) = omega (arith, ints, low, high) in
    let kq = simp to_z-of_z at c.div_euclid.ensures in
    let mw : unsigned_abs w ≤ 2 ^ 24 = whole_most p w kw (omega (arith, ints, fp)) in
    let mq : unsigned_abs q ≤ 2 ^ 29 = rest_most r q kq low high in
    let whole : FitsSigned w64 (w *ℤ pos 268435456) = omega (arith, ints, mw) in
    let all : FitsSigned w64 (w *ℤ pos 268435456 +ℤ q) = omega (arith, ints, mw, mq) in
    let kf = simp to_z-of_z at c.from.ensures in
    let ff : FitsSigned w128 c.from.result = search rules in
    simp to_z-of_z (kf ∙ sym (units_in_two p w r q kw kr kq))
