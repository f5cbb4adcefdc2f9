-- A mix presentation stands for one list of fields.
use Rattle.std.proofs.Common.{◌≡◌, ℕ, ℤ, List, [], ◌∷◌, Option, length, refl, sym, subst, arith}
use Rattle.std.proofs.lemmas.Bool.{eqb-true, eqb-false, ltb-false}
use Rattle.std.proofs.lemmas.List.{append-nil}
use Rattle.spec_syntax.specs.Syntax.{each}
use Rattle.spec_bits.specs.Form.{Leb128, Bytes}
use Rattle.spec_syntax.specs.Payload.{FieldValue, a_field, IsPlain}
use Rattle.spec_syntax.specs.Repetition.{joined}
use Rattle.spec_syntax.specs.Laws.{IsSyntaxOf}
use Rattle.spec_syntax.proofs.Fields.{Has, field_step, end_step, choice_step, bind_step, each_is, syntax_of}
use Rattle.spec_syntax.proofs.Plain.{plain_bind, plain_each}
use Rattle.spec_descriptors.specs.declared.fault.MixFault.TheVariants as fault
use Rattle.spec_descriptors.specs.MixGain.{mix_gain}
use Rattle.spec_descriptors.specs.MixPresentation.{MixElementFields, AnchorFields, LoudnessFields, SubMixFields, MixPresentationFields, text_in, texts, mix_element, loudness_layout, anchor, anchor_in, anchored_loudness, info_type_extension, maybe_true_peak, maybe_anchors, maybe_extension, loudness, loudness_in, mix_element_in, sub_mix, sub_mix_in, mix_presentation}
use Rattle.spec_descriptors.specs.MixFields.{text_fields, mix_element_fields, layout_fields, true_peak_fields, anchor_fields, anchors_fields, extension_fields, loudness_fields, sub_mix_fields, mix_presentation_fields}
use Rattle.spec_descriptors.proofs.MixGainSteps.{mix_gain_is, mix_gain_plain}

-- ---- texts and elements

text_is : (later : ℕ) (before : List (List ℕ)) (xs : List FieldValue) (t : List ℕ) → Has (text_in later before) xs t → xs ≡ text_fields t
text_is later before xs t h =
    field_step h λ v ys e f p h1.
    end_step h1 λ e1 is.
    rw (e, e1, is) refl

texts_are : (n : ℕ) (xs : List FieldValue) (r : List (List ℕ)) → Has (texts n) xs r → (length r ≡ n) × (xs ≡ joined text_fields r)
unfolding texts
texts_are n xs r h = each_is text_in text_fields text_is n xs r h

mix_element_is : (labels : ℕ) (xs : List FieldValue) (r : MixElementFields) → Has (mix_element labels) xs r → xs ≡ mix_element_fields r
unfolding mix_element mix_element_fields
mix_element_is labels xs r h =
    field_step h λ id ys e f p h1.
    bind_step (texts labels) _ h1 λ front ys1 texts e1 first h2.
    field_step h2 λ mode ys2 e2 f2 p2 h3.
    field_step h3 λ reserved ys3 e3 f3 p3 h4.
    field_step h4 λ size ys4 e4 f4 p4 h5.
    field_step h5 λ bytes ys5 e5 f5 p5 h6.
    bind_step mix_gain _ h6 λ front' ys6 gain e6 second h7.
    end_step h7 λ e7 is.
    let front_is = (texts_are labels front texts first).1 in
    let gain_is = mix_gain_is front' gain second in
    let size_is : size ≡ length bytes = sym f5.0 in
    subst (λ (y : MixElementFields). xs ≡ mix_element_fields y) is (rw (e, e1, e2, e3, e4, e5, e6, e7, append-nil, front_is, gain_is, size_is) refl)

-- ---- loudness

layout_is : (xs : List FieldValue) (r : Option ℕ) → Has loudness_layout xs r → xs ≡ layout_fields r
unfolding loudness_layout
layout_is xs r h =
    field_step h λ kind ys e f p h1.
    choice_step h1
    (λ some h2.
    field_step h2 λ system ys2 e2 f2 p2 h3.
    field_step h3 λ reserved ys3 e3 f3 p3 h4.
    end_step h4 λ e4 is.
    let kind_is : kind ≡ 2 = eqb-true kind 2 some in
    subst (λ (y : Option ℕ). xs ≡ layout_fields y) is (rw (e, e2, e3, e4, kind_is) refl))
    (λ none h2.
    field_step h2 λ reserved ys2 e2 f2 p2 h3.
    end_step h3 λ e3 is.
    let kind_is : kind ≡ 3 = omega (arith, f, eqb-false kind 2 none, ltb-false kind 2 p.0) in
    subst (λ (y : Option ℕ). xs ≡ layout_fields y) is (rw (e, e2, e3, kind_is) refl))

true_peak_is : (info : ℕ) (xs : List FieldValue) (r : Option ℤ) → Has (maybe_true_peak info) xs r → xs ≡ true_peak_fields r
unfolding maybe_true_peak
true_peak_is info xs r h =
    choice_step h
    (λ some h1.
    field_step h1 λ peak ys e f p h2.
    end_step h2 λ e1 is.
    subst (λ (y : Option ℤ). xs ≡ true_peak_fields y) is (rw (e, e1) refl))
    (λ none h1.
    end_step h1 λ e is.
    subst (λ (y : Option ℤ). xs ≡ true_peak_fields y) is e)

anchor_is : (later : ℕ) (before : List AnchorFields) (xs : List FieldValue) (r : AnchorFields) → Has (anchor_in later before) xs r → xs ≡ anchor_fields r
unfolding anchor
anchor_is later before xs r h =
    field_step h λ kind ys e f p h1.
    field_step h1 λ level ys1 e1 f1 p1 h2.
    end_step h2 λ e2 is.
    subst (λ (y : AnchorFields). xs ≡ anchor_fields y) is (rw (e, e1, e2) refl)

anchors_are : (info : ℕ) (xs : List FieldValue) (r : List AnchorFields) → Has (maybe_anchors info) xs r → xs ≡ anchors_fields info r
unfolding anchored_loudness maybe_anchors
anchors_are info xs r h =
    choice_step h
    (λ some h1.
    field_step h1 λ count ys e f p h2.
    let list = each_is anchor_in anchor_fields anchor_is count ys r h2 in
    rw (e, some, list.1, list.0) refl)
    (λ none h1.
    end_step h1 λ e is.
    rw (e, none) refl)

extension_is : (info : ℕ) (xs : List FieldValue) (r : List ℕ) → Has (maybe_extension info) xs r → xs ≡ extension_fields info r
unfolding info_type_extension maybe_extension
extension_is info xs r h =
    choice_step h
    (λ some h1.
    field_step h1 λ size ys e f p h2.
    field_step h2 λ bytes ys1 e1 f1 p1 h3.
    end_step h3 λ e2 is.
    let size_is : size ≡ length bytes = sym f1.0 in
    rw some (subst (λ (y : List ℕ). xs ≡ (a_field Leb128 (length y) ∷ a_field (Bytes (length y)) y ∷ [])) is (rw (e, e1, e2, size_is) refl)))
    (λ none h1.
    end_step h1 λ e is.
    rw (e, none) refl)

loudness_is : (later : ℕ) (before : List LoudnessFields) (xs : List FieldValue) (r : LoudnessFields) → Has (loudness_in later before) xs r → xs ≡ loudness_fields r
unfolding loudness loudness_fields
loudness_is later before xs r h =
    bind_step loudness_layout _ h λ front ys system e first h1.
    field_step h1 λ info ys1 e1 f1 p1 h2.
    field_step h2 λ level ys2 e2 f2 p2 h3.
    field_step h3 λ peak ys3 e3 f3 p3 h4.
    bind_step (maybe_true_peak info) _ h4 λ front2 ys4 true_peak e4 second h5.
    bind_step (maybe_anchors info) _ h5 λ front3 ys5 anchors e5 third h6.
    bind_step (maybe_extension info) _ h6 λ front4 ys6 bytes e6 fourth h7.
    end_step h7 λ e7 is.
    let is1 = layout_is front system first in
    let is2 = true_peak_is info front2 true_peak second in
    let is3 = anchors_are info front3 anchors third in
    let is4 = extension_is info front4 bytes fourth in
    subst (λ (y : LoudnessFields). xs ≡ loudness_fields y) is (rw (e, e1, e2, e3, e4, e5, e6, e7, append-nil, is1, is2, is3, is4) refl)

-- ---- the whole

sub_mix_is : (labels later : ℕ) (before : List SubMixFields) (xs : List FieldValue) (r : SubMixFields) → Has (sub_mix_in labels later before) xs r → xs ≡ sub_mix_fields r
unfolding sub_mix sub_mix_fields
sub_mix_is labels later before xs r h =
    field_step h λ count ys e f p h1.
    bind_step (each count (mix_element_in labels) []) _ h1 λ front ys1 elements e1 first h2.
    bind_step mix_gain _ h2 λ front2 ys2 output e2 second h3.
    field_step h3 λ layout_count ys3 e3 f3 p3 h4.
    bind_step (each layout_count loudness_in []) _ h4 λ front4 ys4 layouts e4 third h5.
    end_step h5 λ e5 is.
    let is1 = each_is (mix_element_in labels) mix_element_fields (λ m bs. mix_element_is labels) count front elements first in
    let is2 = mix_gain_is front2 output second in
    let is3 = each_is loudness_in loudness_fields loudness_is layout_count front4 layouts third in
    subst (λ (y : SubMixFields). xs ≡ sub_mix_fields y) is (rw (e, e1, e2, e3, e4, e5, append-nil, is1.1, is1.0, is2, is3.1, is3.0) refl)

mix_presentation_is : (xs : List FieldValue) (r : MixPresentationFields) → Has mix_presentation xs r → xs ≡ mix_presentation_fields r
unfolding mix_presentation mix_presentation_fields
mix_presentation_is xs r h =
    field_step h λ id ys e f p h1.
    field_step h1 λ labels ys1 e1 f1 p1 h2.
    bind_step (texts labels) _ h2 λ front ys2 languages e2 first h3.
    bind_step (texts labels) _ h3 λ front2 ys3 names e3 second h4.
    field_step h4 λ count ys4 e4 f4 p4 h5.
    bind_step (each count (sub_mix_in labels) []) _ h5 λ front3 ys5 sub_mixes e5 third h6.
    end_step h6 λ e6 is.
    let is1 = texts_are labels front languages first in
    let is2 = texts_are labels front2 names second in
    let is3 = each_is (sub_mix_in labels) sub_mix_fields (sub_mix_is labels) count front3 sub_mixes third in
    subst (λ (y : MixPresentationFields). xs ≡ mix_presentation_fields y) is (rw (e, e1, e2, e3, e4, e5, e6, append-nil, is1.1, is1.0, is2.1, is3.1, is3.0) refl)

-- ---- no field asks for the bits before

texts_plain : (n : ℕ) → IsPlain (texts n)
unfolding texts
texts_plain n = plain_each text_in (λ m before v. tt) n []

mix_element_plain : (labels : ℕ) → IsPlain (mix_element labels)
unfolding mix_element
mix_element_plain labels = λ id. plain_bind (texts labels) _ (texts_plain labels) (λ texts mode reserved size bytes. plain_bind mix_gain _ mix_gain_plain (λ gain. tt))

true_peak_plain : (info : ℕ) → IsPlain (maybe_true_peak info)
unfolding maybe_true_peak
true_peak_plain info = (λ v. tt, tt)

anchors_plain : (info : ℕ) → IsPlain (maybe_anchors info)
unfolding maybe_anchors anchored_loudness anchor
anchors_plain info = (λ count. plain_each anchor_in (λ m before kind level. tt) count [], tt)

extension_plain : (info : ℕ) → IsPlain (maybe_extension info)
unfolding maybe_extension info_type_extension
extension_plain info = (λ size bytes. tt, tt)

layout_plain : IsPlain loudness_layout
unfolding loudness_layout
layout_plain = λ kind. (λ system reserved. tt, λ reserved. tt)

loudness_plain : (later : ℕ) (before : List LoudnessFields) → IsPlain (loudness_in later before)
unfolding loudness
loudness_plain later before =
    plain_bind loudness_layout _ layout_plain (λ system info level peak.
    plain_bind (maybe_true_peak info) _ (true_peak_plain info) (λ true_peak.
    plain_bind (maybe_anchors info) _ (anchors_plain info) (λ anchors.
    plain_bind (maybe_extension info) _ (extension_plain info) (λ bytes. tt))))

sub_mix_plain : (labels later : ℕ) (before : List SubMixFields) → IsPlain (sub_mix_in labels later before)
unfolding sub_mix
sub_mix_plain labels later before = λ count.
    plain_bind (each count (mix_element_in labels) []) _ (plain_each (mix_element_in labels) (λ m before. mix_element_plain labels) count []) (λ elements.
    plain_bind mix_gain _ mix_gain_plain (λ output layout_count.
    plain_bind (each layout_count loudness_in []) _ (plain_each loudness_in loudness_plain layout_count []) (λ layouts. tt)))

mix_presentation_plain : IsPlain mix_presentation
unfolding mix_presentation
mix_presentation_plain = λ id labels.
    plain_bind (texts labels) _ (texts_plain labels) (λ languages.
    plain_bind (texts labels) _ (texts_plain labels) (λ names count.
    plain_bind (each count (sub_mix_in labels) []) _ (plain_each (sub_mix_in labels) (sub_mix_plain labels) count []) (λ sub_mixes. tt)))

pub mix_presentation_syntax : IsSyntaxOf (λ f. fault.Field f) mix_presentation mix_presentation_fields
mix_presentation_syntax = syntax_of _ mix_presentation mix_presentation_fields mix_presentation_is mix_presentation_plain
