use Rattle.std.proofs.Common.{rules, arith, FitsSigned, ◌<◌, unsigned_abs}
use Rattle.std.specs.Int.{w128}
use Rattle.std.proofs.lemmas.Int.{ints, to_z-of_z}
use Rattle.demix_layers.proofs.Floors.{units_split, whole_small, floor_most}
use Rattle.demix_layers.proofs.units.to_units.Goals as goal

pub overflow_add-result : goal.overflow_add-result
overflow_add-result c =
    let t : FitsSigned w128 c.args.value.top = search rules in
    let b : FitsSigned w128 c.args.value.bottom = search rules in
    let r : FitsSigned w128 c.rem_euclid-rest.result = search rules in
    let s = units_split _ _ _ _ _ c.args.value.above_zero (simp to_z-of_z at c.div_euclid-whole.ensures) (simp to_z-of_z at c.rem_euclid-rest.ensures.value) (simp to_z-of_z at c.part_units.ensures) in
    let w = whole_small c.args.value.top _ _ c.args.value.above_zero (simp to_z-of_z at c.div_euclid-whole.ensures) c.requires.small in
    omega (arith, ints)

pub returns-clause-value : goal.returns-clause-value
returns-clause-value c =
    let t : FitsSigned w128 c.args.value.top = search rules in
    let b : FitsSigned w128 c.args.value.bottom = search rules in
    let r : FitsSigned w128 c.rem_euclid-rest.result = search rules in
    let s = units_split _ _ _ _ _ c.args.value.above_zero (simp to_z-of_z at c.div_euclid-whole.ensures) (simp to_z-of_z at c.rem_euclid-rest.ensures.value) (simp to_z-of_z at c.part_units.ensures) in
    let w = whole_small c.args.value.top _ _ c.args.value.above_zero (simp to_z-of_z at c.div_euclid-whole.ensures) c.requires.small in
    let e = s.0 in
    omega (arith, ints)

pub returns-clause-most : goal.returns-clause-most
returns-clause-most c =
    let t : FitsSigned w128 c.args.value.top = search rules in
    let b : FitsSigned w128 c.args.value.bottom = search rules in
    let r : FitsSigned w128 c.rem_euclid-rest.result = search rules in
    let s = units_split _ _ _ _ _ c.args.value.above_zero (simp to_z-of_z at c.div_euclid-whole.ensures) (simp to_z-of_z at c.rem_euclid-rest.ensures.value) (simp to_z-of_z at c.part_units.ensures) in
    let w = whole_small c.args.value.top _ _ c.args.value.above_zero (simp to_z-of_z at c.div_euclid-whole.ensures) c.requires.small in
    λ n most.
    let some : 0 < unsigned_abs c.args.value.bottom = let a = c.args.value.above_zero in omega (arith, ints) in
    let m = floor_most c.args.value.top (unsigned_abs c.args.value.bottom) n some most in
    let e = s.0 in
    omega (arith, ints)
