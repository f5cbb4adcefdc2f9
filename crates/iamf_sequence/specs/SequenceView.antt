-- What a sequence holds of its OBUs.
use Rattle.std.specs.Prelude.{◌≡◌, ◌≤◌, ◌^◌, ℕ, List, [], ◌∷◌, ◌++◌, map, length, Option}
use Rattle.std.specs.List.{All}
use Rattle.spec_descriptors.specs.CodecConfig.{CodecConfigFields}
use Rattle.spec_rules.specs.Role.{Role}
use Rattle.spec_sequence.specs.Reading.{Entry, values_of, roles}
use Rattle.spec_sequence.specs.Parts.{header_in, codec_in, element_in, mix_in, sequence_headers, codec_configs, audio_elements, mix_presentations, temporal_units}
use Rattle.obu_header.specs.declared.view.ObuView.{ObuView}
use Rattle.obu_header.specs.View.{head_of}
use Rattle.obu_codec_config.specs.HeaderView.{view_header}
use Rattle.obu_codec_config.specs.CodecView.{StandsForCodec}
use Rattle.obu_descriptors.specs.ElementView.{view_element}
use Rattle.obu_mix.specs.MixView.{view_mix, IsValidMix}
use Rattle.iamf_admission.specs.AdmissionView.{Stands}
use Rattle.iamf_admission.specs.Numbers.{number_after}
use Rattle.iamf_sequence.specs.declared.parts.Placed.{Placed}
use Rattle.iamf_sequence.specs.declared.parts.Parts.{Parts}
use Rattle.iamf_sequence.specs.Tails.{with_tails}
use Rattle.iamf_sequence.specs.ContentsView.{element_and_tail, mix_and_tail, IsElement}
use Rattle.iamf_sequence.specs.UnitView.{AreUnits}
use Rattle.iamf_sequence.specs.Places.{Tiles}
use Rattle.iamf_sequence.specs.SequenceValue.{IsRead, SequenceValue}

-- each view is of its OBU
abbrev pub AreViews : List ObuView → List Entry → Type 0
AreViews [] [] = Unit {0}
AreViews (o ∷ os) (e ∷ es) = (head_of o.head ≡ e.value.head) × (o.payload.now ≡ e.payload) × AreViews os es
AreViews _ _ = ⊥

-- the numbers of the units of OBUs that stand after others
abbrev pub numbers_after : List Role → List Role → List (Option ℕ)
numbers_after l [] = []
numbers_after l (o ∷ os) = number_after l o ∷ numbers_after (l ++ o ∷ []) os

abbrev pub views_of : List Placed → List ObuView
views_of obus = map (λ o. o.view) obus

-- The bytes are a sequence of these OBUs. The parts are the views of the OBUs, which tile the bytes, their descriptors,
-- their temporal units and their admission.
pub record IsSequence (p : Parts) (v : SequenceValue) : Type 0 where
  pub read : IsRead v.bytes v.entries
  pub short : length v.bytes ≤ 2 ^ 40
  pub views : AreViews (views_of p.obus.items) v.entries
  pub tiles : Tiles v.bytes 0 (views_of p.obus.items) (length v.bytes)
  pub numbers : map (λ o. o.unit) p.obus.items ≡ numbers_after [] (roles v.entries)
  pub header : sequence_headers (values_of v.entries) ≡ view_header p.header ∷ []
  pub header_tail : with_tails header_in (values_of v.entries) ≡ (view_header p.header, p.header.tail.now) ∷ []
  pub codec : (c : CodecConfigFields) × (codec_configs (values_of v.entries) ≡ c ∷ []) × StandsForCodec p.codec c
  pub codec_tail : (c : CodecConfigFields) × (with_tails codec_in (values_of v.entries) ≡ (c, p.codec.tail.now) ∷ []) × StandsForCodec p.codec c
  pub elements : map view_element p.elements.items ≡ audio_elements (values_of v.entries)
  pub element_tails : map element_and_tail p.elements.items ≡ with_tails element_in (values_of v.entries)
  pub valid : All IsElement p.elements.items
  pub mixes : map view_mix p.mixes.items ≡ mix_presentations (values_of v.entries)
  pub mix_tails : map mix_and_tail p.mixes.items ≡ with_tails mix_in (values_of v.entries)
  pub valid_mixes : All IsValidMix p.mixes.items
  pub units : AreUnits p.units.items (temporal_units (values_of v.entries))
  pub admission : Stands p.admission v.entries
