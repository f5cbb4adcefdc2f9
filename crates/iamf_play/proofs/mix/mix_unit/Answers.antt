use Rattle.std.proofs.Common.{arith, ◌≡◌, ◌<◌, ◌≤◌, ◌+◌, ◌-◌, ◌*◌, ◌^◌, ◌++◌, ℕ, ℤ, sym, ap, subst, ◌∙◌, List, length, take, unsigned_abs}
use Rattle.std.specs.List.{All}
use Rattle.std.proofs.Math.Nat.{mul-le-mul_right}
use Rattle.std.proofs.lemmas.Grind.{common_steps}
use Rattle.std.proofs.lemmas.List.{length-take, length-drop}
use Rattle.std.proofs.lemmas.List.Elements.{All-append}
use Rattle.iamf_play.specs.PlayedElements.{AreBegun}
use Rattle.iamf_play.specs.Mixing.{mixed_from}
use Rattle.iamf_play.proofs.MixedUnits.{ticks_more}
use Rattle.iamf_play.proofs.MixSteps.{next_taken}
use Rattle.iamf_play.proofs.mix.mix_unit.Goals as goal

abbrev IsSmall : ℤ → Type 0
IsSmall z = unsigned_abs z < 2 ^ 126

pub loop-k-preserved : goal.loop-k-preserved
loop-k-preserved c =
    let k = c.loop-k.k in
    let n = c.args.channels in
    let more = mul-le-mul_right n (let h : k + 1 ≤ c.args.count = omega arith in h) in
    let room : (k + 1) * n ≤ length c.loop-k.mixed = omega (arith, more) in
    let long : length c.mix_tick.new.sums ≡ n = first_of (omega (arith, more), omega (arith, more, length-take {A = ℤ}, length-drop {A = ℤ}), grind (arith, common_steps)) in
    let taken = next_taken k n (k * n + n - k * n) c.loop-k.mixed c.mix_tick.new.sums long room in
    record {
      same = c.mix_tick.ensures.same ∙ c.loop-k.invariant.same;
      value = λ s r u at gains whole.
          let begun = subst (λ ps. AreBegun s r u ps) (sym c.loop-k.invariant.same) at.elements in
          let inside : c.args.first + k < length c.args.row.now = omega arith in
          let tick = c.mix_tick.ensures.value s r u (record { at = record { playable = at.playable; elements = begun; unit = at.unit; wide = (let w = at.wide in omega (arith, w, long)) }; tick = omega (arith, whole); output = gains (c.args.first + k) inside }) in
          taken ∙ ap (λ (xs : List ℤ). xs ++ c.mix_tick.new.sums) (c.loop-k.invariant.value s r u at gains whole) ∙ ap (λ (ys : List ℤ). mixed_from r u c.args.first k ++ ys) tick ∙ sym (ticks_more r u c.args.first k);
      small = subst (λ (xs : List ℤ). All IsSmall xs) (sym taken) (All-append IsSmall (take (k * n) c.loop-k.mixed) c.mix_tick.new.sums c.loop-k.invariant.small c.mix_tick.ensures.small);
    }

pub returns-clause-value : goal.returns-clause-value
returns-clause-value c = λ s r u at gains whole.
    let last : c.loop-k.k ≡ c.args.count = omega arith in
    subst (λ (n : ℕ). take (n * c.args.channels) c.loop-k.mixed ≡ mixed_from r u c.args.first n) last (c.loop-k.invariant.value s r u at gains whole)
