-- One mix presentation for one target, with all that is heard of it (IAMF 1.0.0, "Mix Presentation OBU Syntax and Semantics").
use Rattle.std.specs.Prelude.{ℕ, ◌==◌, false, List, [], ◌∷◌, ◌++◌, map, find, Option, Some, None, slice_index_or}
use Rattle.std.specs.List.{flat_map}
use Rattle.spec_descriptors.specs.CodecConfig.{CodecConfigFields, Lpcm}
use Rattle.spec_descriptors.specs.AudioElement.{AudioElementFields}
use Rattle.spec_descriptors.specs.MixGain.{MixGainFields}
use Rattle.spec_descriptors.specs.MixPresentation.{MixElementFields, SubMixFields, MixPresentationFields}
use Rattle.spec_values.specs.Value.{ObuValue}
use Rattle.spec_rules.specs.declared.codec_role.CodecRole.{CodecRole}
use Rattle.spec_sequence.specs.ValueRole.{role_of_codec}
use Rattle.spec_sequence.specs.Parts.{UnitValue, roles_of, codec_configs, audio_elements, mix_presentations, temporal_units}
use Rattle.spec_rules.specs.Samples.{kept}
use Rattle.spec_play.specs.declared.target.Target.{Target}

-- an audio element, and the gain by which it goes into the mix
pub record MixedElement : Type 0 where
  pub element : AudioElementFields
  pub gain : MixGainFields

-- What is heard: the elements of one sub-mix, the gain of their sum, and what they are played for; the temporal units with
-- their frames and blocks; and how many samples of a channel no trim leaves out.
pub record Rendition : Type 0 where
  pub codec : CodecConfigFields
  pub elements : List MixedElement
  pub output : MixGainFields
  pub target : Target
  pub units : List UnitValue
  pub kept : ℕ

-- a sequence has exactly one codec config; where there is none, nothing is coded
abbrev pub no_codec : CodecConfigFields
no_codec = record { codec_config_id = 0; num_samples_per_frame = 0; coding = Lpcm false 0 0 }

abbrev pub with_gain : MixGainFields → Option AudioElementFields → List MixedElement
with_gain gain None = []
with_gain gain (Some element) = record { element = element; gain = gain } ∷ []

-- one element of a sub-mix, by its id; a sequence has each that a mix names
abbrev pub mixed_element : List AudioElementFields → MixElementFields → List MixedElement
mixed_element elements m = with_gain m.element_mix_gain (find (λ e. e.audio_element_id == m.audio_element_id) elements)

-- an element that is named twice counts twice
abbrev pub mixed_elements : List AudioElementFields → List MixElementFields → List MixedElement
mixed_elements elements named = flat_map (mixed_element elements) named

abbrev pub rendition : List ObuValue → Target → SubMixFields → Rendition
rendition s target sub_mix = record {
  codec = slice_index_or (codec_configs s) 0 no_codec;
  elements = mixed_elements (audio_elements s) sub_mix.elements;
  output = sub_mix.output_mix_gain;
  target = target;
  units = temporal_units s;
  kept = kept (roles_of s);
}

-- the mix presentation of an id; a sequence has each id once
abbrev pub mix_of : List ObuValue → ℕ → Option MixPresentationFields
mix_of s id = find (λ m. m.mix_presentation_id == id) (mix_presentations s)

-- a mix of exactly one sub-mix
abbrev pub rendition_of_sub_mixes : List ObuValue → Target → List SubMixFields → Option Rendition
rendition_of_sub_mixes s target (sub_mix ∷ []) = Some (rendition s target sub_mix)
rendition_of_sub_mixes s target _ = None

abbrev pub rendition_of_mix : List ObuValue → Target → Option MixPresentationFields → Option Rendition
rendition_of_mix s target None = None
rendition_of_mix s target (Some m) = rendition_of_sub_mixes s target m.sub_mixes

unfoldable pub rendition_of : List ObuValue → ℕ → Target → Option Rendition
rendition_of s mix target = rendition_of_mix s target (mix_of s mix)

-- ---- what the codec config says

abbrev pub codec_of : Rendition → CodecRole
codec_of r = role_of_codec r.codec

-- ticks of a unit: samples of a channel in a frame
abbrev pub unit_length : Rendition → ℕ
unit_length r = r.codec.num_samples_per_frame

-- ---- the gains of a mix: those of its elements and that of its output

abbrev pub mix_gains : Rendition → List MixGainFields
mix_gains r = map (λ m. m.gain) r.elements ++ r.output ∷ []

-- ---- units

abbrev pub no_unit : UnitValue
no_unit = record { frames = []; blocks = [] }

abbrev pub unit_of : Rendition → ℕ → UnitValue
unit_of r u = slice_index_or r.units u no_unit
