use Rattle.std.proofs.Common.{arith, ◌≡◌, ◌<◌, ◌≤◌, ◌^◌, ◌*◌, length, get_or, pos, ◌+ℤ◌, unsigned_abs, to_z, of_z, ◌∙◌, ap}
use Rattle.std.proofs.lemmas.Int.{ints}
use mir.Syntax.{w128}
use Rattle.spec_play.specs.FixedMix.{gained}
use Rattle.iamf_mixing.proofs.GainBounds.{gained_small}
use Rattle.iamf_mixing.proofs.Steps.{set_below, set_above}
use Rattle.iamf_mixing.proofs.sums.add_row.Goals as goal

pub loop-c-preserved : goal.loop-c-preserved
loop-c-preserved c =
    let i = c.loop-c.c in
    let was = get_or c.args.sums.now i (pos 0) in
    let there : i < length c.loop-c.sums = omega arith in
    let left : get_or c.loop-c.sums i (pos 0) ≡ was = c.loop-c.invariant.left i (omega arith) in
    let bound : unsigned_abs was < 2 ^ 100 = c.requires.sums i (pos 0) (omega arith) in
    let few : unsigned_abs c.gained.result ≤ 2 ^ 73 = c.gained.ensures.small in
    let sum : to_z w128 (of_z w128 (to_z w128 (of_z w128 (get_or c.loop-c.sums i (pos 0))) +ℤ to_z w128 (of_z w128 c.gained.result))) ≡ was +ℤ c.gained.result = omega (arith, ints) in
    let channel = get_or c.args.channels.now i (pos 0) in
    let most : unsigned_abs channel < 2 ^ 67 = c.requires.channels i (pos 0) (omega arith) in
    let same : to_z w128 (of_z w128 channel) ≡ channel = omega (arith, ints) in
    let value = sum ∙ ap (λ z. was +ℤ z) (c.gained.ensures.value ∙ ap (λ z. gained z c.args.gain) same) in
    record {
      added = set_below c.loop-c.sums i _ (pos 0) (λ k. get_or c.args.sums.now k (pos 0) +ℤ gained (get_or c.args.channels.now k (pos 0)) c.args.gain) there c.loop-c.invariant.added value;
      left = set_above c.loop-c.sums i _ (pos 0) (λ k. get_or c.args.sums.now k (pos 0)) c.loop-c.invariant.left;
    }

pub returns-clause-growth : goal.returns-clause-growth
returns-clause-growth c = λ k h.
    let value : get_or c.loop-c.sums k (pos 0) ≡ get_or c.args.sums.now k (pos 0) +ℤ gained (get_or c.args.channels.now k (pos 0)) c.args.gain = c.loop-c.invariant.added k (omega arith) in
    let channel : unsigned_abs (get_or c.args.channels.now k (pos 0)) < 2 ^ 67 = c.requires.channels k (pos 0) (omega arith) in
    let small : unsigned_abs (gained (get_or c.args.channels.now k (pos 0)) c.args.gain) ≤ 40 * 2 ^ 67 = gained_small (get_or c.args.channels.now k (pos 0)) c.args.gain (2 ^ 67) channel c.requires.gain in
    rw value (omega (arith, ints))
