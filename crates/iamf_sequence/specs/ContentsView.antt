-- What is kept of what OBUs say.
use Rattle.std.specs.Prelude.{◌≡◌, ℕ, ◌≤◌, true, List, [], ◌∷◌, map, Option, Some, None}
use Rattle.std.specs.List.{All}
use Rattle.spec_syntax.specs.Payload.{IsValid}
use Rattle.spec_descriptors.specs.SequenceHeader.{SequenceHeaderFields}
use Rattle.spec_descriptors.specs.CodecConfig.{CodecConfigFields}
use Rattle.spec_descriptors.specs.AudioElement.{AudioElementFields, audio_element}
use Rattle.spec_descriptors.specs.ElementFields.{audio_element_fields}
use Rattle.spec_descriptors.specs.MixPresentation.{MixPresentationFields}
use Rattle.spec_values.specs.Value.{ObuValue}
use Rattle.spec_rules.specs.Role.{Role}
use Rattle.spec_rules.specs.Units.{is_data, unit_after, unit_count}
use Rattle.spec_sequence.specs.Parts.{roles_of, obus_of, header_in, codec_in, element_in, mix_in, temporal_units}
use Rattle.obu_codec_config.specs.HeaderView.{view_header}
use Rattle.obu_codec_config.specs.CodecView.{StandsForCodec}
use Rattle.obu_descriptors.specs.ElementView.{view_element}
use Rattle.obu_codec_config.specs.declared.sequence_header.SequenceHeader.{SequenceHeader}
use Rattle.obu_codec_config.specs.declared.codec_config.CodecConfig.{CodecConfig}
use Rattle.obu_descriptors.specs.declared.audio_element.AudioElement.{AudioElement}
use Rattle.obu_mix.specs.declared.mix_presentation.MixPresentation.{MixPresentation}
use Rattle.obu_mix.specs.MixView.{view_mix, tail_of, IsValidMix}
use Rattle.iamf_sequence.specs.declared.contents.Contents.{Contents}
use Rattle.iamf_sequence.specs.Tails.{with_tails}
use Rattle.iamf_sequence.specs.UnitView.{view_unit, IsConsistent}

-- each with its tail

abbrev pub AreHeaders : Option SequenceHeader → List (SequenceHeaderFields × List ℕ) → Type 0
AreHeaders None hs = hs ≡ []
AreHeaders (Some h) hs = hs ≡ (view_header h, h.tail.now) ∷ []

abbrev pub AreCodecs : Option CodecConfig → List (CodecConfigFields × List ℕ) → Type 0
AreCodecs None cs = cs ≡ []
AreCodecs (Some r) cs = (c : CodecConfigFields) × (cs ≡ (c, r.tail.now) ∷ []) × StandsForCodec r c

abbrev pub element_and_tail : AudioElement → AudioElementFields × List ℕ
element_and_tail e = (view_element e, e.tail.now)

abbrev pub mix_and_tail : MixPresentation → MixPresentationFields × List ℕ
mix_and_tail m = (view_mix m, tail_of m)

-- it is valid for some frame length
abbrev pub IsElement : AudioElement → Type 0
IsElement e = (frame_length : ℕ) × IsValid (audio_element frame_length) audio_element_fields (view_element e)

-- no OBU is of a unit after the last one
abbrev pub HasNoLater : List ObuValue → Type 0
HasNoLater s = (u : ℕ) → unit_count (roles_of s) ≤ u → obus_of u s ≡ []

-- The descriptors of a list of OBUs in their order, and its temporal units with their frames and blocks.
pub record AreContents (k : Contents) (s : List ObuValue) : Type 0 where
  pub header : AreHeaders k.header (with_tails header_in s)
  pub codec : AreCodecs k.codec (with_tails codec_in s)
  pub elements : map element_and_tail k.elements.items ≡ with_tails element_in s
  pub valid : All IsElement k.elements.items
  pub mixes : map mix_and_tail k.mixes.items ≡ with_tails mix_in s
  pub valid_mixes : All IsValidMix k.mixes.items
  pub units : map view_unit k.units.items ≡ temporal_units s
  pub consistent : All IsConsistent k.units.items
  pub later : HasNoLater s

-- the unit of a data OBU after a list has this number
abbrev pub AddsTo : ℕ → List Role → Role → Type 0
AddsTo unit l o = is_data o ≡ true → unit ≡ unit_after l o
