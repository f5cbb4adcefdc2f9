-- IAMF 1.0.0, "Mix Presentation OBU Syntax and Semantics".
use Rattle.std.specs.Prelude.{ℕ, ℤ, ◌/◌, ◌%◌, ◌^◌, Bool, List, [], ◌∷◌, nat_lt, ◌==◌, Option, Some, None}
use Rattle.spec_bits.specs.Form.{Number, Signed, Leb128, String, Bytes, Reserved}
use Rattle.spec_syntax.specs.Syntax.{Syntax, End, Choice, field, refuse, each, ◌>>=◌, ◌>>◌}
use Rattle.spec_descriptors.specs.declared.fault.MixFault.{MixFault}
use Rattle.spec_descriptors.specs.declared.fault.MixFault.TheVariants as fault
use Rattle.spec_descriptors.specs.MixGain.{MixGainFields, mix_gain}

pub record MixElementFields : Type 0 where
  pub audio_element_id : ℕ
  pub localized_element_annotations : List (List ℕ)
  pub headphones_rendering_mode : ℕ
  pub rendering_config_extension : List ℕ
  pub element_mix_gain : MixGainFields

pub record AnchorFields : Type 0 where
  pub anchor_element : ℕ
  pub anchored_loudness : ℤ

-- `sound_system` is none for binaural; `info_type_bytes` are there where a bit above 1 of `info_type` is set
pub record LoudnessFields : Type 0 where
  pub sound_system : Option ℕ
  pub info_type : ℕ
  pub integrated_loudness : ℤ
  pub digital_peak : ℤ
  pub true_peak : Option ℤ
  pub anchors : List AnchorFields
  pub info_type_bytes : List ℕ

pub record SubMixFields : Type 0 where
  pub elements : List MixElementFields
  pub output_mix_gain : MixGainFields
  pub layouts : List LoudnessFields

pub record MixPresentationFields : Type 0 where
  pub mix_presentation_id : ℕ
  pub annotations_languages : List (List ℕ)
  pub localized_presentation_annotations : List (List ℕ)
  pub sub_mixes : List SubMixFields

-- so many texts
abbrev pub text_in : ℕ → List (List ℕ) → Syntax MixFault (List ℕ)
text_in after before = field String []

unfoldable pub texts : ℕ → Syntax MixFault (List (List ℕ))
texts count_label = each count_label text_in []

unfoldable pub mix_element : ℕ → Syntax MixFault MixElementFields
mix_element count_label = do
  audio_element_id ← field Leb128 []
  localized_element_annotations ← texts count_label
  headphones_rendering_mode ← field (Number 2) []
  field (Reserved 6) []
  rendering_config_extension_size ← field Leb128 []
  rendering_config_extension ← field (Bytes rendering_config_extension_size) []
  element_mix_gain ← mix_gain
  End (record {
    audio_element_id = audio_element_id;
    localized_element_annotations = localized_element_annotations;
    headphones_rendering_mode = headphones_rendering_mode;
    rendering_config_extension = rendering_config_extension;
    element_mix_gain = element_mix_gain;
  })

-- ---- loudness

-- type 2 has a sound system, type 3 is binaural, types 0 and 1 are reserved
unfoldable pub loudness_layout : Syntax MixFault (Option ℕ)
loudness_layout = do
  layout_type ← field (Number 2) (refuse fault.LayoutType (λ n. nat_lt n 2) ∷ [])
  Choice (layout_type == 2) (do
    sound_system ← field (Number 4) []
    field (Reserved 2) []
    End (Some sound_system))
      (do
        field (Reserved 6) []
        End None)

unfoldable pub anchor : Syntax MixFault AnchorFields
anchor = do
  anchor_element ← field (Number 8) []
  anchored_loudness ← field (Signed 16) []
  End (record { anchor_element = anchor_element; anchored_loudness = anchored_loudness })

abbrev pub anchor_in : ℕ → List AnchorFields → Syntax MixFault AnchorFields
anchor_in after before = anchor

-- bit k of a byte is 1
abbrev pub has_bit : ℕ → ℕ → Bool
has_bit k byte = byte / 2 ^ k % 2 == 1

unfoldable pub anchored_loudness : Syntax MixFault (List AnchorFields)
anchored_loudness = do
  num_anchored_loudness ← field (Number 8) []
  each num_anchored_loudness anchor_in []

unfoldable pub info_type_extension : Syntax MixFault (List ℕ)
info_type_extension = do
  info_type_size ← field Leb128 []
  field (Bytes info_type_size) []

-- what the bits of `info_type` say that there is
unfoldable pub maybe_true_peak : ℕ → Syntax MixFault (Option ℤ)
maybe_true_peak info_type = Choice (has_bit 0 info_type) (field (Signed 16) [] >>= λ true_peak. End (Some true_peak)) (End None)

unfoldable pub maybe_anchors : ℕ → Syntax MixFault (List AnchorFields)
maybe_anchors info_type = Choice (has_bit 1 info_type) anchored_loudness (End [])

unfoldable pub maybe_extension : ℕ → Syntax MixFault (List ℕ)
maybe_extension info_type = Choice (nat_lt 3 info_type) info_type_extension (End [])

unfoldable pub loudness : Syntax MixFault LoudnessFields
loudness = do
  sound_system ← loudness_layout
  info_type ← field (Number 8) []
  integrated_loudness ← field (Signed 16) []
  digital_peak ← field (Signed 16) []
  true_peak ← maybe_true_peak info_type
  anchors ← maybe_anchors info_type
  info_type_bytes ← maybe_extension info_type
  End (record {
    sound_system = sound_system;
    info_type = info_type;
    integrated_loudness = integrated_loudness;
    digital_peak = digital_peak;
    true_peak = true_peak;
    anchors = anchors;
    info_type_bytes = info_type_bytes;
  })

abbrev pub loudness_in : ℕ → List LoudnessFields → Syntax MixFault LoudnessFields
loudness_in after before = loudness

-- ---- the whole

abbrev pub mix_element_in : ℕ → ℕ → List MixElementFields → Syntax MixFault MixElementFields
mix_element_in count_label after before = mix_element count_label

unfoldable pub sub_mix : ℕ → Syntax MixFault SubMixFields
sub_mix count_label = do
  num_audio_elements ← field Leb128 []
  elements ← each num_audio_elements (mix_element_in count_label) []
  output_mix_gain ← mix_gain
  num_layouts ← field Leb128 []
  layouts ← each num_layouts loudness_in []
  End (record { elements = elements; output_mix_gain = output_mix_gain; layouts = layouts })

abbrev pub sub_mix_in : ℕ → ℕ → List SubMixFields → Syntax MixFault SubMixFields
sub_mix_in count_label after before = sub_mix count_label

unfoldable pub mix_presentation : Syntax MixFault MixPresentationFields
mix_presentation = do
  mix_presentation_id ← field Leb128 []
  count_label ← field Leb128 []
  annotations_languages ← texts count_label
  localized_presentation_annotations ← texts count_label
  num_sub_mixes ← field Leb128 []
  sub_mixes ← each num_sub_mixes (sub_mix_in count_label) []
  End (record {
    mix_presentation_id = mix_presentation_id;
    annotations_languages = annotations_languages;
    localized_presentation_annotations = localized_presentation_annotations;
    sub_mixes = sub_mixes;
  })
