use Rattle.std.proofs.Common.{arith, ◌≡◌, ◌<◌, ◌^◌, ℤ, ◌+ℤ◌, true, sym, ap, subst, ◌∙◌, length}
use Rattle.iamf_play.specs.Mixing.{place}
use Rattle.iamf_play.specs.PlayedElements.{AreBegun}
use Rattle.iamf_play.proofs.ElementWalks.{begun_here}
use Rattle.iamf_play.proofs.MixedUnits.{part_of, sum_more, sum_all}
use Rattle.iamf_play.proofs.MixSteps.{few, some, all_small, set_again, base_is, base_low}
use Rattle.iamf_play.proofs.mix.add_elements.Goals as goal

pub add-requires-clause-place : goal.add-requires-clause-place
add-requires-clause-place c =
    let at = c.requires.at in
    let begun = subst (λ ps. AreBegun at.0 at.1 at.2 ps) (sym c.loop-element.invariant.same) at.3.elements in
    let here = begun_here at.0 at.1 at.2 c.loop-element.element-index c.loop-element.elements c.element-item.result begun (omega arith) in
    let wide = at.3.wide in
    (at.0, at.1, here.0, at.2, here.2, at.4, omega (arith, wide))

pub add-requires-clause-sums : goal.add-requires-clause-sums
add-requires-clause-sums c = λ old.
    let at = c.requires.at in
    let most = few at.1 at.3.playable in
    let count = at.3.elements.count in
    let same = ap length c.loop-element.invariant.same in
    all_small c.loop-element.sums c.loop-element.element-index (2 ^ 100) (omega (arith, most, count, same)) (omega arith) (base_low c.loop-element.fresh c.loop-element.sums _ (λ new. cc) c.loop-element.invariant.low)

pub loop-element-preserved : goal.loop-element-preserved
loop-element-preserved c = record {
  same = set_again c.loop-element.elements c.loop-element.element-index c.element-item.result c.add.new.self c.add.ensures.same ∙ c.loop-element.invariant.same;
  first = λ new. absurd cc;
  value = λ s r u at inside k h.
      let begun = subst (λ ps. AreBegun s r u ps) (sym c.loop-element.invariant.same) at.elements in
      let here = begun_here s r u c.loop-element.element-index c.loop-element.elements c.element-item.result begun (omega arith) in
      let low : k < length c.loop-element.sums = omega arith in
      c.add.ensures.value s r here.0 u here.2 inside k low
      ∙ ap (λ (z : ℤ). z +ℤ part_of r (place u c.args.n k) here.0) (c.loop-element.invariant.value s r u at inside k low)
      ∙ sym (sum_more r (place u c.args.n k) c.loop-element.element-index here.0 here.1);
  low = λ k h.
      let inside : k < length c.loop-element.sums = omega arith in
      omega (arith, c.add.ensures.growth k inside, c.loop-element.invariant.low k inside);
}

pub returns-clause-value : goal.returns-clause-value
returns-clause-value c = λ s r u at inside k h.
    let count = at.elements.count in
    let same = ap length c.loop-element.invariant.same in
    let low : k < length c.loop-element.sums = omega arith in
    let old : c.loop-element.fresh ≡ true → ⊥ = (λ new. absurd (omega (arith, some r at.playable, count, same, c.loop-element.invariant.first new))) in
    base_is c.loop-element.fresh _ _ old (c.loop-element.invariant.value s r u at inside k low ∙ sum_all r (place u c.args.n k) c.loop-element.element-index (omega (arith, count, same)))

pub returns-clause-small : goal.returns-clause-small
returns-clause-small c =
    let at = c.requires.at in
    let most = few at.1 at.3.playable in
    let count = at.3.elements.count in
    let same = ap length c.loop-element.invariant.same in
    let old : c.loop-element.fresh ≡ true → ⊥ = (λ new. absurd (omega (arith, some at.1 at.3.playable, count, same, c.loop-element.invariant.first new))) in
    all_small c.loop-element.sums c.loop-element.element-index (2 ^ 78) (omega (arith, most, count, same)) (omega arith) (base_low c.loop-element.fresh c.loop-element.sums _ old c.loop-element.invariant.low)
