use Rattle.std.proofs.Common.{ℕ, subst}
use Rattle.spec_syntax.specs.Payload.{IsValid}
use Rattle.spec_descriptors.specs.AudioElement.{audio_element}
use Rattle.spec_descriptors.specs.ElementFields.{audio_element_fields}
use Rattle.obu_descriptors.specs.ElementView.{view_element}
use Rattle.iamf_admission.proofs.parts.parts_of.Goals as goal

pub element_parts-requires : goal.element_parts-requires
element_parts-requires c =
    rw c.deref.ensures (subst (λ (n : ℕ). IsValid (audio_element n) audio_element_fields (view_element c.in-AudioElement.element.value)) c.requires.2 (rw c.in-AudioElement.is at c.requires.3))
