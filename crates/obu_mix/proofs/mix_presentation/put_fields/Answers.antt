use Rattle.std.proofs.Common.{◌≡◌, ◌∙◌, List, ◌++◌, append_assoc, refl, sym, map, length}
use Rattle.spec_bits.specs.Bits.{Bits}
use Rattle.spec_syntax.specs.Payload.{FieldValue, canon}
use Rattle.spec_syntax.specs.Repetition.{joined}
use Rattle.spec_descriptors.specs.MixFields.{text_fields, sub_mixes_fields, mix_presentation_fields}
use Rattle.obu_mix.specs.SubMixView.{view_sub_mix}
use Rattle.spec_syntax.proofs.Writing.{canon_append, joined_map}
use Rattle.std.proofs.lemmas.List.{length-map}
use Rattle.obu_mix.proofs.mix_presentation.put_fields.Goals as goal

-- two fields are put, and then three lists of them
put_parts : (o0 o1 o2 o3 o4 o5 a b : Bits) (xs ys zs : List FieldValue) → o1 ≡ o0 ++ a → o2 ≡ o1 ++ b → o3 ≡ o2 ++ canon xs → o4 ≡ o3 ++ canon ys → o5 ≡ o4 ++ canon zs
    → o5 ≡ o0 ++ (a ++ (b ++ canon (xs ++ (ys ++ zs))))
put_parts o0 o1 o2 o3 o4 o5 a b xs ys zs e1 e2 e3 e4 e5 =
    rw (e5, e4, e3, e2, e1, canon_append xs (ys ++ zs), canon_append ys zs) (simp append_assoc refl)

pub returns : goal.returns
unfolding mix_presentation_fields
returns c =
    let mix = c.args.mix.now in
    let count : c.len.result ≡ length (map (λ t. t.now) mix.languages.items) = c.len.ensures.value ∙ sym (length-map mix.languages.items (λ t. t.now)) in
    let counted = rw count at c.in_ok-put_leb-2.ensures.bits in
    let languages = rw (c.as_slice.ensures, ← joined_map text_fields (λ t. t.now) mix.languages.items) at c.in_ok-put_texts.ensures.0 in
    let names = rw (c.as_slice-2.ensures, ← joined_map text_fields (λ t. t.now) mix.names.items) at c.in_ok-put_texts-2.ensures.0 in
    let sub_mixes = rw c.as_slice-3.ensures at c.in_ok-put_sub_mixes.ensures.0 in (
      put_parts _ _ _ _ _ _ _ _ (joined text_fields (map (λ t. t.now) mix.languages.items)) (joined text_fields (map (λ t. t.now) mix.names.items)) (sub_mixes_fields (map view_sub_mix mix.sub_mixes.items))
          c.in_ok-put_leb.ensures.bits counted languages names sub_mixes,
      c.in_ok-put_sub_mixes.ensures.1,
    )
