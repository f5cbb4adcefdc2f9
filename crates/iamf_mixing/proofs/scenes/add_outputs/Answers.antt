use Rattle.std.proofs.Common.{arith, ◌≡◌, ◌<◌, ◌≤◌, ◌+◌, ◌^◌, ℤ, length, get_or, pos, ◌+ℤ◌, unsigned_abs, to_z, of_z, ◌∙◌, ap, sym, subst}
use Rattle.std.proofs.lemmas.Int.{ints}
use mir.Syntax.{w128}
use Rattle.spec_play.specs.FixedMix.{gained}
use Rattle.iamf_mixing.specs.Scenes.{scene_units}
use Rattle.iamf_mixing.proofs.Steps.{set_below, set_above, growth_more}
use Rattle.iamf_mixing.proofs.scenes.add_outputs.Goals as goal

pub loop-c-preserved : goal.loop-c-preserved
loop-c-preserved c =
    let i = c.loop-c.c in
    let was = get_or c.args.sums.now i (pos 0) in
    let there : i < length c.loop-c.sums = omega arith in
    let left : get_or c.loop-c.sums i (pos 0) ≡ was = c.loop-c.invariant.left i (omega arith) in
    let bound : unsigned_abs was < 2 ^ 100 = c.requires.sums i (omega arith) in
    let few : unsigned_abs c.gained.result ≤ 2 ^ 73 = c.gained.ensures.small in
    let sum : to_z w128 (of_z w128 (to_z w128 (of_z w128 (get_or c.loop-c.sums i (pos 0))) +ℤ to_z w128 (of_z w128 c.gained.result))) ≡ was +ℤ c.gained.result = omega (arith, ints) in
    let output : unsigned_abs c.scene_output.result < 2 ^ 67 = c.scene_output.ensures.small in
    let same : to_z w128 (of_z w128 c.scene_output.result) ≡ c.scene_output.result = omega (arith, ints) in
    let value = sum ∙ ap (λ z. was +ℤ z) (c.gained.ensures.value ∙ ap (λ z. gained z c.args.gain) (same ∙ c.scene_output.ensures.value)) in
    let most : unsigned_abs (was +ℤ c.gained.result) ≤ unsigned_abs was + 2 ^ 73 = omega (arith, ints) in
    record {
      added = set_below c.loop-c.sums i _ (pos 0) (λ k. get_or c.args.sums.now k (pos 0) +ℤ gained (scene_units c.args.config.now c.args.coded.now k) c.args.gain) there c.loop-c.invariant.added value;
      growth = growth_more c.loop-c.sums c.args.sums.now i _ (2 ^ 73) there c.loop-c.invariant.growth (subst (λ (z : ℤ). unsigned_abs z ≤ unsigned_abs was + 2 ^ 73) (sym sum) most);
      left = set_above c.loop-c.sums i _ (pos 0) (λ k. get_or c.args.sums.now k (pos 0)) c.loop-c.invariant.left;
    }
