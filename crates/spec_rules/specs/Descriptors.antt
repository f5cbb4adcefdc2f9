-- What the descriptors of a list say.
use Rattle.std.specs.Prelude.{ℕ, ◌==◌, Bool, true, false, ◌&&◌, if◌then◌else◌, List, [], ◌∷◌, fold, Option, Some, None}
use Rattle.std.specs.List.{flat_map, zip}
use Rattle.std.specs.Str.{bytes_eq}
use Rattle.spec_descriptors.specs.ParameterDefinition.{FixedFields}
use Rattle.spec_blocks.specs.Shape.{Shape, MixGain, Demixing, ReconGain, Definition, with_definition}
use Rattle.spec_values.specs.Content.{Context}
use Rattle.spec_rules.specs.declared.codec_role.CodecRole.{CodecRole}
use Rattle.spec_rules.specs.Role.{ElementRole, MixRole, Role, Ignored, SequenceHeader, CodecConfig, AudioElement, MixPresentation, Delimiter, ParameterBlock, AudioFrame}

-- Descriptors stand in this order, and data OBUs after them.
abbrev pub rank : Role → ℕ
rank Ignored = 0
rank (SequenceHeader profile) = 1
rank (CodecConfig c) = 2
rank (AudioElement e) = 3
rank (MixPresentation m) = 4
rank Delimiter = 5
rank (ParameterBlock b) = 5
rank (AudioFrame f) = 5

-- what one OBU adds to each list of the sequence

abbrev pub profile_of : Role → List ℕ
profile_of (SequenceHeader profile) = profile ∷ []
profile_of _ = []

abbrev pub codec_of : Role → List CodecRole
codec_of (CodecConfig c) = c ∷ []
codec_of _ = []

abbrev pub element_of : Role → List ElementRole
element_of (AudioElement e) = e ∷ []
element_of _ = []

abbrev pub mix_of : Role → List MixRole
mix_of (MixPresentation m) = m ∷ []
mix_of _ = []

abbrev pub definitions_of : Role → List Definition
definitions_of (AudioElement e) = e.definitions
definitions_of (MixPresentation m) = m.definitions
definitions_of _ = []

-- the descriptors of each type, and the ids of substreams, in their order

unfoldable pub profiles : List Role → List ℕ
profiles l = flat_map profile_of l

unfoldable pub codecs : List Role → List CodecRole
codecs l = flat_map codec_of l

unfoldable pub elements : List Role → List ElementRole
elements l = flat_map element_of l

unfoldable pub mixes : List Role → List MixRole
mixes l = flat_map mix_of l

abbrev pub substreams_of : Role → List ℕ
substreams_of (AudioElement e) = e.substreams
substreams_of _ = []

unfoldable pub substreams : List Role → List ℕ
substreams l = flat_map substreams_of l

-- that of the codec config, 0 where there is none
abbrev pub first_length : List CodecRole → ℕ
first_length [] = 0
first_length (c ∷ cs) = c.frame_length

unfoldable pub frame_length : List Role → ℕ
frame_length l = first_length (codecs l)

-- ---- definitions

-- the definitions in the order in which they come, each id once
unfoldable pub definitions : List Role → List Definition
definitions l = fold with_definition [] (flat_map definitions_of l)

abbrev pub same_fixed : FixedFields → FixedFields → Bool
same_fixed a b = a.duration == b.duration && (a.constant_subblock_duration == b.constant_subblock_duration && bytes_eq a.durations b.durations)

abbrev pub same_timing : Option FixedFields → Option FixedFields → Bool
same_timing None None = true
same_timing (Some a) (Some b) = same_fixed a b
same_timing _ _ = false

abbrev pub same_shape : Shape → Shape → Bool
same_shape (MixGain rate fixed) (MixGain other_rate other) = rate == other_rate && same_timing fixed other
same_shape (Demixing rate fixed) (Demixing other_rate other) = rate == other_rate && same_fixed fixed other
same_shape (ReconGain rate fixed layers flags) (ReconGain other_rate other other_layers other_flags) =
    rate == other_rate && (same_fixed fixed other && (layers == other_layers && flags == other_flags))
same_shape _ _ = false

-- what a payload is read by after the list
unfoldable pub context_of : List Role → Context
context_of l = record { frame_length = frame_length l; definitions = definitions l }

-- ---- channels

-- of the first pair with the substream
abbrev pub channels_in : List (ℕ × ℕ) → ℕ → Option ℕ
channels_in [] substream = None
channels_in (p ∷ ps) substream = if p.0 == substream then Some p.1 else channels_in ps substream

abbrev pub pairs_in : List ℕ → Option (List ℕ) → List (ℕ × ℕ)
pairs_in substreams None = []
pairs_in substreams (Some channels) = zip substreams channels

abbrev pub pairs_of : Role → List (ℕ × ℕ)
pairs_of (AudioElement e) = pairs_in e.substreams e.channels
pairs_of _ = []

-- the number of channels of a substream, where it is known
unfoldable pub channels_of : List Role → ℕ → Option ℕ
channels_of l substream = channels_in (flat_map pairs_of l) substream
