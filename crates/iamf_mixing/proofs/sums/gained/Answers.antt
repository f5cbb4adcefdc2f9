use Rattle.std.proofs.Common.{arith, ◌≡◌, ◌≤◌, ◌^◌, ◌*◌, ℤ, unsigned_abs, to_z, of_z, sym, subst, ◌∙◌, ap}
use Rattle.std.proofs.lemmas.Int.{ints}
use mir.Syntax.{w128}
use Rattle.spec_play.specs.FixedMix.{gained}
use Rattle.iamf_mixing.proofs.GainBounds.{gained_small, gained_by_one}
use Rattle.iamf_mixing.proofs.sums.gained.Goals as goal

pub returns-then-gain-eq-ONE : goal.returns-then-gain-eq-ONE
returns-then-gain-eq-ONE c =
    let same : to_z w128 (of_z w128 c.args.channel) ≡ c.args.channel = omega (arith, ints) in
    let small : unsigned_abs c.args.channel ≤ 2 ^ 73 = omega arith in
    record {
      value = same ∙ gained_by_one c.args.channel ∙ ap (λ g. gained c.args.channel g) (sym c.if-gain-eq-ONE.true);
      small = subst (λ (z : ℤ). unsigned_abs z ≤ 2 ^ 73) (sym same) small;
    }

pub returns-else-gain-eq-ONE : goal.returns-else-gain-eq-ONE
returns-else-gain-eq-ONE c =
    let channel : to_z w128 (of_z w128 c.args.channel) ≡ c.args.channel = omega (arith, ints) in
    let result : to_z w128 (of_z w128 c.apply_gain.result) ≡ c.apply_gain.result = omega (arith, ints) in
    let small : unsigned_abs (gained c.args.channel c.args.gain) ≤ 40 * 2 ^ 67 = gained_small c.args.channel c.args.gain (2 ^ 67) c.requires.channel c.requires.gain in
    let fits : unsigned_abs (gained c.args.channel c.args.gain) ≤ 2 ^ 73 = omega arith in
    let value : to_z w128 (of_z w128 c.apply_gain.result) ≡ gained c.args.channel c.args.gain = result ∙ c.apply_gain.ensures ∙ ap (λ z. gained z c.args.gain) channel in
    record { value = value; small = subst (λ (z : ℤ). unsigned_abs z ≤ 2 ^ 73) (sym value) fits }
