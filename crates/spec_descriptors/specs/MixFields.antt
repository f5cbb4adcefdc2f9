-- The fields that a mix presentation and its parts stand for, one after the other
-- (IAMF 1.0.0, "Mix Presentation OBU Syntax and Semantics" and "Mix Gain Parameter Definition").
use Rattle.std.specs.Prelude.{ℕ, ℤ, List, [], ◌∷◌, ◌++◌, Option, Some, None, length, nat_lt, if◌then◌else◌}
use Rattle.spec_bits.specs.Form.{Number, Signed, Leb128, String, Bytes, Reserved}
use Rattle.spec_syntax.specs.Payload.{FieldValue, a_field}
use Rattle.spec_syntax.specs.Repetition.{joined}
use Rattle.spec_descriptors.specs.TimingFields.{definition_fields}
use Rattle.spec_descriptors.specs.MixGain.{MixGainFields}
use Rattle.spec_descriptors.specs.MixPresentation.{MixElementFields, AnchorFields, LoudnessFields, SubMixFields, MixPresentationFields, has_bit}

-- ---- mix gains

unfoldable pub mix_gain_fields : MixGainFields → List FieldValue
mix_gain_fields g = definition_fields g.definition ++ a_field (Signed 16) g.default_mix_gain ∷ []

-- ---- elements

abbrev pub text_fields : List ℕ → List FieldValue
text_fields text = a_field String text ∷ []

abbrev pub rendering_fields : MixElementFields → List FieldValue
rendering_fields e =
    a_field (Number 2) e.headphones_rendering_mode
    ∷ a_field (Reserved 6) tt
    ∷ a_field Leb128 (length e.rendering_config_extension)
    ∷ a_field (Bytes (length e.rendering_config_extension)) e.rendering_config_extension
    ∷ []

unfoldable pub mix_element_fields : MixElementFields → List FieldValue
mix_element_fields e = a_field Leb128 e.audio_element_id ∷ (joined text_fields e.localized_element_annotations ++ (rendering_fields e ++ mix_gain_fields e.element_mix_gain))

-- ---- loudness

abbrev pub layout_fields : Option ℕ → List FieldValue
layout_fields (Some sound_system) = a_field (Number 2) 2 ∷ a_field (Number 4) sound_system ∷ a_field (Reserved 2) tt ∷ []
layout_fields None = a_field (Number 2) 3 ∷ a_field (Reserved 6) tt ∷ []

abbrev pub true_peak_fields : Option ℤ → List FieldValue
true_peak_fields (Some true_peak) = a_field (Signed 16) true_peak ∷ []
true_peak_fields None = []

abbrev pub anchor_fields : AnchorFields → List FieldValue
anchor_fields a = a_field (Number 8) a.anchor_element ∷ a_field (Signed 16) a.anchored_loudness ∷ []

abbrev pub anchors_fields : ℕ → List AnchorFields → List FieldValue
anchors_fields info_type anchors = if has_bit 1 info_type then a_field (Number 8) (length anchors) ∷ joined anchor_fields anchors else []

abbrev pub extension_fields : ℕ → List ℕ → List FieldValue
extension_fields info_type bytes = if nat_lt 3 info_type then a_field Leb128 (length bytes) ∷ a_field (Bytes (length bytes)) bytes ∷ [] else []

-- what is always there
abbrev pub levels_fields : LoudnessFields → List FieldValue
levels_fields l = a_field (Number 8) l.info_type ∷ a_field (Signed 16) l.integrated_loudness ∷ a_field (Signed 16) l.digital_peak ∷ []

unfoldable pub loudness_fields : LoudnessFields → List FieldValue
loudness_fields l =
    layout_fields l.sound_system ++ (levels_fields l ++ (true_peak_fields l.true_peak ++ (anchors_fields l.info_type l.anchors ++ extension_fields l.info_type l.info_type_bytes)))

-- ---- the whole

abbrev pub elements_fields : List MixElementFields → List FieldValue
elements_fields elements = a_field Leb128 (length elements) ∷ joined mix_element_fields elements

abbrev pub layouts_fields : List LoudnessFields → List FieldValue
layouts_fields layouts = a_field Leb128 (length layouts) ∷ joined loudness_fields layouts

unfoldable pub sub_mix_fields : SubMixFields → List FieldValue
sub_mix_fields s = elements_fields s.elements ++ (mix_gain_fields s.output_mix_gain ++ layouts_fields s.layouts)

abbrev pub sub_mixes_fields : List SubMixFields → List FieldValue
sub_mixes_fields sub_mixes = a_field Leb128 (length sub_mixes) ∷ joined sub_mix_fields sub_mixes

-- `count_label` is the number of languages
unfoldable pub mix_presentation_fields : MixPresentationFields → List FieldValue
mix_presentation_fields m =
    a_field Leb128 m.mix_presentation_id
    ∷ a_field Leb128 (length m.annotations_languages)
    ∷ (joined text_fields m.annotations_languages ++ (joined text_fields m.localized_presentation_annotations ++ sub_mixes_fields m.sub_mixes))
