-- The rules of sequences: what is tested of an OBU after those before it, and at the end, in the order of testing.
-- They are those of IAMF 1.0.0, "IA Sequence Structure", "Temporal Unit" and "IA Profiles" for one codec config and one
-- mix that fits; the order of testing, the numbers and some limits are this project's own.
use Rattle.std.specs.Prelude.{ℕ, ◌+◌, ◌-◌, ◌*◌, ◌==◌, max, nat_lt, nat_le, Bool, false, not, ◌&&◌, ◌||◌, if◌then◌else◌, List, [], ◌∷◌, ◌++◌, map, length, Option, Some, None}
use Rattle.std.specs.List.{list_any}
use Rattle.std.specs.Option.{option_map}
use Rattle.spec_blocks.specs.Shape.{Shape, MixGain, Demixing, ReconGain, Definition, shape_of, with_definition}
use Rattle.spec_samples.specs.Lpcm.{frame_bytes}
use Rattle.spec_flac.specs.declared.shape.FlacShape.{FlacShape}
use Rattle.spec_flac.specs.FirstFault.{first_fault}
use Rattle.spec_values.specs.declared.fault.Fault.{Fault}
use Rattle.spec_values.specs.declared.fault.Fault.TheVariants.{Order, Repeated, Unknown, ParamClash, Incomplete, NoMixFits, SecondSequence, UnitFrame, UnitShort, BlockTime, Lpcm}
use Rattle.spec_values.specs.declared.fault.Fault.TheVariants as fault
use Rattle.spec_obu.specs.declared.obu_type.ObuType.{ObuType}
use Rattle.spec_obu.specs.declared.obu_type.ObuType.TheVariants as obu_type
use Rattle.spec_obu.specs.declared.trim.Trim.{Trim}
use Rattle.spec_rules.specs.declared.codec.Codec.{Codec}
use Rattle.spec_rules.specs.declared.codec.Codec.TheVariants as codec
use Rattle.spec_rules.specs.declared.codec_role.CodecRole.{CodecRole}
use Rattle.spec_rules.specs.Role.{Role, Ignored, SequenceHeader, CodecConfig, AudioElement, MixPresentation, Delimiter, ParameterBlock, AudioFrame}
use Rattle.spec_rules.specs.Descriptors.{rank, profiles, codecs, elements, mixes, substreams, frame_length, definitions, same_shape, channels_of}
use Rattle.spec_rules.specs.Profile.{has_fit}
use Rattle.spec_rules.specs.Units.{contains, is_none_of, is_delimiter, is_data, is_delimited, unit_after, in_units, streams_in, trims_in, trims_before, blocks_in, is_complete, block_end}

abbrev pub when : Bool → Fault → Option Fault
when test fault = if test then Some fault else None

-- the first fault of a table
abbrev pub first_of : List (Option Fault) → Option Fault
first_of [] = None
first_of (None ∷ rows) = first_of rows
first_of (Some fault ∷ rows) = Some fault

-- ---- tests of ids, in the order of the syntax

-- the first of the ids that is known, or stands before among the ids
abbrev pub repeated : List ℕ → List ℕ → Option Fault
repeated known [] = None
repeated known (id ∷ ids) = if contains known id then Some (Repeated id) else repeated (known ++ id ∷ []) ids

-- the first of the ids that is not known
abbrev pub unknown : List ℕ → List ℕ → Option Fault
unknown known [] = None
unknown known (id ∷ ids) = if contains known id then unknown known ids else Some (Unknown id)

abbrev pub is_other : Option Shape → Shape → Bool
is_other None shape = false
is_other (Some known) shape = not (same_shape known shape)

-- the first of the definitions whose id has another shape, in the known ones or before among these
abbrev pub clashing : List Definition → List Definition → Option Fault
clashing known [] = None
clashing known (d ∷ ds) = if is_other (shape_of known d.parameter_id) d.shape then Some (ParamClash d.parameter_id) else clashing (with_definition known d) ds

-- ---- descriptors

-- before the sequence header, or after an OBU of higher rank
unfoldable pub is_out_of_order : List Role → ℕ → Bool
is_out_of_order l r = is_none_of (profiles l) || list_any (λ e. nat_lt r (rank e)) l

unfoldable pub lacks_descriptors : List Role → Bool
lacks_descriptors l = is_none_of (profiles l) || is_none_of (codecs l) || is_none_of (elements l) || is_none_of (mixes l)

abbrev pub element_ids : List Role → List ℕ
element_ids l = map (λ e. e.id) (elements l)

-- at the first data OBU, and at the end of a list without one
abbrev pub start_tests : List Role → List (Option Fault)
start_tests l = when (not (list_any is_data l) && lacks_descriptors l) Incomplete ∷ when (not (list_any is_data l) && not (has_fit l)) NoMixFits ∷ []

-- ---- trims: those of a frame of a unit are those of all its frames, a start is trimmed before any sample is kept, and an
-- end after all of them

abbrev pub same_trim : Trim → Trim → Bool
same_trim a b = (a.end == b.end) && (a.start == b.start)

abbrev pub keeps : ℕ → Trim → Bool
keeps length trim = nat_lt (trim.start + trim.end) length

abbrev pub cuts : Trim → Bool
cuts trim = nat_lt 0 trim.end

abbrev pub has_bad_trim : List Role → ℕ → Trim → Bool
has_bad_trim l u trim =
    nat_lt (frame_length l) (trim.start + trim.end)
    || list_any (λ other. not (same_trim other trim)) (trims_in u l)
    || (nat_lt 0 trim.start && list_any (keeps (frame_length l)) (trims_before u l))
    || list_any cuts (trims_before u l)

-- ---- blocks

abbrev pub rate_of : List CodecRole → ℕ
rate_of [] = 0
rate_of (c ∷ cs) = c.rate

-- A block of a mix gain starts at the later of its unit's start and the end of the block of its id before it; that has to
-- come before the unit's end. Of another rate than the samples' it is not tested.
abbrev pub starts_late : List Role → ℕ → ℕ → Bool
starts_late l u id = nat_le ((u + 1) * frame_length l) (max (u * frame_length l) (block_end id l))

-- a demixing or a recon-gain parameter has one block in a unit
abbrev pub is_late : List Role → ℕ → ℕ → Option Shape → Bool
is_late l u id None = false
is_late l u id (Some (MixGain rate fixed)) = rate == rate_of (codecs l) && starts_late l u id
is_late l u id (Some (Demixing rate fixed)) = contains (blocks_in u l) id
is_late l u id (Some (ReconGain rate fixed layers flags)) = contains (blocks_in u l) id

-- ---- coded frames, of substreams whose number of channels is known

abbrev pub has_other_length : CodecRole → Option ℕ → List ℕ → Bool
has_other_length role None bytes = false
has_other_length role (Some channels) bytes = not (length bytes == frame_bytes role.frame_length channels role.depth)

abbrev pub flac_shape : CodecRole → ℕ → FlacShape
flac_shape role channels = record { depth = role.depth; rate = role.rate; channels = channels; length = role.frame_length }

-- of LPCM the length, and of FLAC the first fault of the frame
abbrev pub frame_tests : Codec → CodecRole → Option ℕ → List ℕ → List (Option Fault)
frame_tests codec.Lpcm role channels bytes = when (has_other_length role channels bytes) Lpcm ∷ []
frame_tests codec.Flac role None bytes = []
frame_tests codec.Flac role (Some channels) bytes = option_map fault.Flac (first_fault (flac_shape role channels) bytes) ∷ []

abbrev pub codec_tests : List CodecRole → Option ℕ → List ℕ → List (Option Fault)
codec_tests [] channels bytes = []
codec_tests (role ∷ roles) channels bytes = frame_tests role.codec role channels bytes

-- ---- the tables

-- what is tested before the payload is read
abbrev pub tests_before : List Role → ObuType → List (Option Fault)
tests_before l obu_type.SequenceHeader = when (not (is_none_of (profiles l))) SecondSequence ∷ []
tests_before l obu_type.CodecConfig = when (is_out_of_order l 2) Order ∷ []
tests_before l obu_type.AudioElement = when (is_out_of_order l 3) Order ∷ []
tests_before l obu_type.MixPresentation = when (is_out_of_order l 4) Order ∷ []
tests_before l obu_type.ParameterBlock = start_tests l
tests_before l obu_type.TemporalDelimiter = start_tests l
tests_before l obu_type.AudioFrame = start_tests l
tests_before l obu_type.Reserved = []

-- and after it
abbrev pub tests_after : List Role → Role → List (Option Fault)
tests_after l Ignored = []
tests_after l (SequenceHeader profile) = []
tests_after l (CodecConfig c) = when (not (is_none_of (codecs l))) (Repeated c.id) ∷ []
tests_after l (AudioElement e) =
    repeated (element_ids l) (e.id ∷ [])
    ∷ repeated (substreams l) e.substreams
    ∷ unknown (map (λ c. c.id) (codecs l)) (e.codec ∷ [])
    ∷ clashing (definitions l) e.definitions
    ∷ []
tests_after l (MixPresentation m) =
    repeated (map (λ m. m.id) (mixes l)) (m.id ∷ [])
    ∷ unknown (element_ids l) m.elements
    ∷ clashing (definitions l) m.definitions
    ∷ []
tests_after l Delimiter =
    when (not (is_delimited (l ++ Delimiter ∷ []))) fault.Delimiter
    ∷ when (list_any is_delimiter l && not (is_complete (unit_after l Delimiter - 1) l)) UnitShort
    ∷ []
tests_after l (ParameterBlock b) =
    when (is_late l (unit_after l (ParameterBlock b)) b.id (shape_of (definitions l) b.id)) BlockTime ∷ []
tests_after l (AudioFrame f) =
    when (not (contains (substreams l) f.substream) || contains (streams_in (unit_after l (AudioFrame f)) l) f.substream) UnitFrame
    ∷ when (has_bad_trim l (unit_after l (AudioFrame f)) f.trim) fault.Trim
    ∷ codec_tests (codecs l) (channels_of l f.substream) f.bytes

unfoldable pub fault_before : List Role → ObuType → Option Fault
fault_before l k = first_of (tests_before l k)

unfoldable pub fault_after : List Role → Role → Option Fault
fault_after l o = first_of (tests_after l o)

-- some data OBU stands in a unit that lacks a frame
abbrev pub has_short_unit : List Role → Bool
has_short_unit l = not (is_none_of (in_units (λ u. not (is_complete u l)) l))

-- the fault of a list that ends here
unfoldable pub end_fault : List Role → Option Fault
end_fault l = first_of (start_tests l ++ when (has_short_unit l) UnitShort ∷ [])
