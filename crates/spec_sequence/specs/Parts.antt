-- What a sequence is made of: its descriptors, and its temporal units with their frames and blocks
-- (IAMF 1.0.0, "IA Sequence Structure" and "Temporal Unit").
use Rattle.std.specs.Prelude.{ℕ, zero, suc, ◌==◌, if◌then◌else◌, List, [], ◌∷◌, ◌++◌, map}
use Rattle.std.specs.List.{flat_map}
use Rattle.spec_obu.specs.Header.{Head}
use Rattle.spec_descriptors.specs.SequenceHeader.{SequenceHeaderFields}
use Rattle.spec_descriptors.specs.CodecConfig.{CodecConfigFields}
use Rattle.spec_descriptors.specs.AudioElement.{AudioElementFields}
use Rattle.spec_descriptors.specs.MixPresentation.{MixPresentationFields}
use Rattle.spec_blocks.specs.ParameterBlock.{BlockFields}
use Rattle.spec_values.specs.Content.{Content, Header, Codec, Element, Mix, Block, Frame}
use Rattle.spec_values.specs.Value.{ObuValue}
use Rattle.spec_obu.specs.declared.trim.Trim.{Trim}
use Rattle.spec_rules.specs.Role.{Role}
use Rattle.spec_sequence.specs.ValueRole.{trim_of, role}
use Rattle.spec_rules.specs.Units.{is_data, unit_after, unit_count}

abbrev pub roles_of : List ObuValue → List Role
roles_of s = map role s

-- ---- descriptors: what the plain ones of each type say, in their order

abbrev pub header_in : Content → List SequenceHeaderFields
header_in (Header h) = h ∷ []
header_in _ = []

abbrev pub codec_in : Content → List CodecConfigFields
codec_in (Codec c) = c ∷ []
codec_in _ = []

abbrev pub element_in : Content → List AudioElementFields
element_in (Element e) = e ∷ []
element_in _ = []

abbrev pub mix_in : Content → List MixPresentationFields
mix_in (Mix m) = m ∷ []
mix_in _ = []

-- a redundant copy repeats what stands before
abbrev pub of_plain : {X : Type 0} → (Content → List X) → ObuValue → List X
of_plain part o = if o.head.redundant then [] else part o.content

unfoldable pub sequence_headers : List ObuValue → List SequenceHeaderFields
sequence_headers s = flat_map (of_plain header_in) s

unfoldable pub codec_configs : List ObuValue → List CodecConfigFields
codec_configs s = flat_map (of_plain codec_in) s

unfoldable pub audio_elements : List ObuValue → List AudioElementFields
audio_elements s = flat_map (of_plain element_in) s

unfoldable pub mix_presentations : List ObuValue → List MixPresentationFields
mix_presentations s = flat_map (of_plain mix_in) s

-- a mix presentation with its tail, which may hold tags
pub record MixValue : Type 0 where
  pub fields : MixPresentationFields
  pub tail : List ℕ

abbrev pub mix_with : Content → List ℕ → List MixValue
mix_with (Mix m) tail = record { fields = m; tail = tail } ∷ []
mix_with _ tail = []

abbrev pub mix_of : ObuValue → List MixValue
mix_of o = if o.head.redundant then [] else mix_with o.content o.tail

unfoldable pub mix_values : List ObuValue → List MixValue
mix_values s = flat_map mix_of s

-- ---- temporal units

-- the bytes are the codec's
pub record FrameValue : Type 0 where
  pub substream : ℕ
  pub trim : Trim
  pub bytes : List ℕ

pub record BlockValue : Type 0 where
  pub fields : BlockFields
  pub tail : List ℕ

-- the trims of a unit are those of its first frame, 0 and 0 without one
abbrev pub first_trim : List FrameValue → Trim
first_trim [] = record { end = 0; start = 0 }
first_trim (frame ∷ frames) = frame.trim

abbrev pub frame_in : Head → Content → List ℕ → List FrameValue
frame_in h (Frame substream) tail = record { substream = substream; trim = trim_of h.trim; bytes = tail } ∷ []
frame_in h _ tail = []

abbrev pub frame_of : ObuValue → List FrameValue
frame_of o = frame_in o.head o.content o.tail

abbrev pub block_in : Content → List ℕ → List BlockValue
block_in (Block b) tail = record { fields = b; tail = tail } ∷ []
block_in _ tail = []

abbrev pub block_of : ObuValue → List BlockValue
block_of o = block_in o.content o.tail

-- the data OBUs of a list, which stands after others, each with the number of its unit
abbrev pub numbered_after : List Role → List ObuValue → List (ℕ × ObuValue)
numbered_after l [] = []
numbered_after l (o ∷ os) = (if is_data (role o) then (unit_after l (role o), o) ∷ [] else []) ++ numbered_after (l ++ role o ∷ []) os

abbrev pub if_of_unit : ℕ → ℕ × ObuValue → List ObuValue
if_of_unit u p = if p.0 == u then p.1 ∷ [] else []

-- the OBUs of a unit, in their order
unfoldable pub obus_of : ℕ → List ObuValue → List ObuValue
obus_of u s = flat_map (if_of_unit u) (numbered_after [] s)

-- its frames and its blocks
pub record UnitValue : Type 0 where
  pub frames : List FrameValue
  pub blocks : List BlockValue

abbrev pub unit_value : ℕ → List ObuValue → UnitValue
unit_value u s = record { frames = flat_map frame_of (obus_of u s); blocks = flat_map block_of (obus_of u s) }

-- the first so many units
abbrev pub units_up_to : ℕ → List ObuValue → List UnitValue
units_up_to zero s = []
units_up_to (suc u) s = units_up_to u s ++ unit_value u s ∷ []

unfoldable pub temporal_units : List ObuValue → List UnitValue
temporal_units s = units_up_to (unit_count (roles_of s)) s
