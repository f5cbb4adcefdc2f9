-- What is written of a mix presentation: its fields, its tags and its tail.
use Rattle.std.proofs.Common.{◌≡◌, ℕ, List, [], ◌++◌, length, sym, ap, ◌∙◌, append_assoc}
use Rattle.spec_bits.specs.Bits.{Bits, all_bits}
use Rattle.spec_bits.specs.Form.{Bytes, canonical}
use Rattle.spec_bits.proofs.BitsLaws.{all_bits-append}
use Rattle.spec_syntax.specs.Payload.{canon}
use Rattle.spec_descriptors.specs.MixFields.{mix_presentation_fields}
use Rattle.obu_mix.specs.declared.mix_presentation.MixPresentation.{MixPresentation}
use Rattle.obu_mix.specs.TagView.{tags_bytes}
use Rattle.obu_mix.specs.MixView.{view_mix, tags_in, tail_of}

pub mix_is : (m : MixPresentation) (o0 o1 o2 o3 : Bits) (v : List ℕ) → o0 ≡ [] → o1 ≡ o0 ++ canon (mix_presentation_fields (view_mix m)) → o2 ≡ o1 ++ all_bits (tags_bytes (tags_in m)) → o3 ≡ o2 ++ canonical (Bytes (length m.tail.now)) m.tail.now
    → all_bits v ≡ o3 → all_bits v ≡ canon (mix_presentation_fields (view_mix m)) ++ all_bits (tail_of m)
unfolding canonical
mix_is m o0 o1 o2 o3 v e0 e1 e2 e3 e =
    e ∙ e3 ∙ rw (e2, e1, e0) (append_assoc (canon (mix_presentation_fields (view_mix m))) (all_bits (tags_bytes (tags_in m))) (all_bits m.tail.now))
    ∙ ap (λ (b : Bits). canon (mix_presentation_fields (view_mix m)) ++ b) (sym (all_bits-append (tags_bytes (tags_in m)) m.tail.now))
