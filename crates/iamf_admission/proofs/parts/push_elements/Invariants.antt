use Rattle.std.proofs.Common.{◌≡◌, ◌++◌, map, take}
use Rattle.iamf_admission.proofs.parts.push_elements.Given as goal

abbrev pub invariant-loop-element : goal.invariant-loop-element
invariant-loop-element l = l.ids.items ≡ l.fn.ids.items ++ map (λ element. element.element) (take l.element-index l.elements)
