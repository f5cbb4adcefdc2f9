-- One element of a sequence as it is played for a target.
use Rattle.std.specs.Prelude.{◌≡◌, ℕ, List, Some, slice_get, slice_index_or}
use Rattle.spec_syntax.specs.Payload.{IsValid}
use Rattle.spec_descriptors.specs.CodecConfig.{CodecConfigFields}
use Rattle.spec_descriptors.specs.AudioElement.{AudioElementFields, audio_element}
use Rattle.spec_descriptors.specs.ElementFields.{audio_element_fields}
use Rattle.spec_sequence.specs.Reading.{values_of}
use Rattle.spec_sequence.specs.Parts.{UnitValue, codec_configs, temporal_units}
use Rattle.spec_play.specs.declared.target.Target.{Target}
use Rattle.spec_play.specs.Mixes.{MixedElement, Rendition, rendition_of, no_codec, no_unit}
use Rattle.spec_play.specs.Laws.{IsPlayable}
use Rattle.iamf_sequence.specs.SequenceValue.{SequenceValue}

-- the sequence, the element, the target, and how many units were begun
pub record ChannelsValue : Type 0 where
  pub sequence : SequenceValue
  pub element : AudioElementFields
  pub target : Target
  pub begun : ℕ

-- The rendition is what is heard of some mix of the sequence for the target; it is played, and the element is one of its elements.
pub record IsHeard (sequence : SequenceValue) (element : AudioElementFields) (target : Target) (r : Rendition) : Type 0 where
  pub mix : ℕ
  pub heard_is : rendition_of (values_of sequence.entries) mix target ≡ Some r
  pub playable : IsPlayable r
  pub place : ℕ
  pub mixed : MixedElement
  pub there : slice_get r.elements place ≡ Some mixed
  pub element_is : mixed.element ≡ element
  pub valid : (frame_length : ℕ) × IsValid (audio_element frame_length) audio_element_fields element

abbrev pub Hears : ChannelsValue → Rendition → Type 0
Hears value r = IsHeard value.sequence value.element value.target r

-- ---- what a sequence has

abbrev pub codec_in : SequenceValue → CodecConfigFields
codec_in sequence = slice_index_or (codec_configs (values_of sequence.entries)) 0 no_codec

abbrev pub units_in : SequenceValue → List UnitValue
units_in sequence = temporal_units (values_of sequence.entries)

abbrev pub unit_in : SequenceValue → ℕ → UnitValue
unit_in sequence u = slice_index_or (units_in sequence) u no_unit
