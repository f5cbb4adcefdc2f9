use Rattle.std.proofs.Common.{◌≡◌, ℕ, Some, length}
use Rattle.std.specs.Prelude.{slice_get}
use Rattle.spec_play.specs.Mixes.{MixedElement, Rendition, unit_length}
use Rattle.iamf_select.specs.PlanView.{IsSelected}
use Rattle.iamf_play.specs.declared.element.PlayedElement.{PlayedElement}
use Rattle.iamf_play.specs.PlayedElements.{IsPart}
use Rattle.iamf_play.proofs.reserving.elements_of.Given as goal

abbrev pub invariant-loop-i : goal.invariant-loop-i
invariant-loop-i l = record {
  count : length l.elements.items ≡ l.i;
  parts : (r : Rendition) (k : ℕ) (m : MixedElement) (p : PlayedElement) → IsSelected l.plan r → unit_length r ≡ l.ticks → slice_get r.elements k ≡ Some m → slice_get l.elements.items k ≡ Some p → IsPart l.plan.sequence r m 0 p;
}
