use Rattle.std.proofs.Common.{◌≡◌, ◌++◌, take}
use Rattle.spec_syntax.specs.Payload.{canon}
use Rattle.spec_syntax.specs.Repetition.{joined}
use Rattle.spec_descriptors.specs.MixFields.{mix_element_fields}
use Rattle.obu_mix_elements.specs.MixElementView.{view_mix_element}
use Rattle.obu_mix_elements.proofs.mix_element.put_all_elements.Given as goal

abbrev pub invariant-loop-element : goal.invariant-loop-element
invariant-loop-element l = (l.out.used ≡ 0) × (l.out.bits ≡ l.fn.out.bits ++ canon (joined (λ e. mix_element_fields (view_mix_element e)) (take l.element-index l.elements)))
