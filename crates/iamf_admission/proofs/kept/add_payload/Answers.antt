use Rattle.std.proofs.Common.{◌≡◌, true, ℕ, sym, ap, ◌∙◌}
use Rattle.spec_obu.specs.Header.{Head}
use Rattle.spec_obu.specs.Kinds.{obu_type_of, is_descriptor}
use Rattle.iamf_admission.proofs.CopiesAdmitted.{descriptor_plain}
use Rattle.iamf_admission.proofs.kept.add_payload.Goals as goal

pub returns : goal.returns
returns c = λ past e st next plain.
    let kind = ap (λ (h : Head). h.kind) next.head in
    let descriptor : is_descriptor (obu_type_of e.value.head.kind) ≡ true = ap (λ (n : ℕ). is_descriptor (obu_type_of n)) kind ∙ sym (ap is_descriptor c.obu_type.ensures) ∙ sym c.is_descriptor.ensures ∙ c.if-not-is_descriptor.false in
    c.in_ok-add.ensures.adds past e st kind (descriptor_plain e.value.head plain descriptor) next.payload
