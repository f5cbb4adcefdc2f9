use Rattle.std.proofs.Common.{arith, ◌≡◌, ◌+◌, ℕ, Some, ap, subst, ◌∙◌, length, ◌++◌, [], ◌∷◌, List, length-append}
use Rattle.std.specs.Prelude.{slice_get}
use Rattle.spec_play.specs.Mixes.{MixedElement}
use Rattle.iamf_play.specs.declared.element.PlayedElement.{PlayedElement}
use Rattle.iamf_play.specs.PlayedElements.{IsPart}
use Rattle.iamf_play.proofs.ElementWalks.{each_pushed}
use Rattle.iamf_play.proofs.reserving.elements_of.Goals as goal

pub loop-i-preserved : goal.loop-i-preserved
loop-i-preserved c =
    let old = c.loop-i.elements.items in
    let new = c.in_ok-element.element in
    let items : c.push.new.self.items ≡ old ++ new ∷ [] = c.in_ok-push.ensures.items in
    let count = c.loop-i.invariant.count in
    record {
      count = ap length items ∙ length-append old (new ∷ []) ∙ ap (λ (n : ℕ). n + 1) count;
      parts = λ r k m p is long a b.
          each_pushed r (λ (m : MixedElement) (p : PlayedElement). IsPart c.args.plan.now.sequence r m 0 p) old new (λ j x q a b. c.loop-i.invariant.parts r j x q is long a b)
          (λ x there. c.in_ok-element.ensures r x is long (subst (λ (j : ℕ). slice_get r.elements j ≡ Some x) count there))
          k m p a (subst (λ (ps : List PlayedElement). slice_get ps k ≡ Some p) items b);
    }

pub returns : goal.returns
returns c = λ r is long. let count = c.loop-i.invariant.count in let most = c.element_count-i-end.ensures r is in record { count = omega (arith, count, most); each = λ k m p a b. c.loop-i.invariant.parts r k m p is long a b }
