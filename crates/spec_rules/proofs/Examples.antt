-- The definitions on small lists.
use Rattle.std.proofs.Common.{◌≡◌, ℕ, true, false, zero, suc, List, [], ◌∷◌, ◌++◌, refl}
use Rattle.std.specs.Prelude.{Some, None}
use Rattle.spec_blocks.specs.Shape.{MixGain}
use Rattle.spec_values.specs.declared.fault.Fault.TheVariants.{Incomplete, UnitFrame, UnitShort, BlockTime, Lpcm}
use Rattle.spec_values.specs.declared.fault.Fault.TheVariants as fault
use Rattle.spec_obu.specs.declared.obu_type.ObuType.TheVariants as obu_type
use Rattle.spec_obu.specs.declared.trim.Trim.{Trim}
use Rattle.spec_rules.specs.declared.codec.Codec.TheVariants as codec
use Rattle.spec_rules.specs.Role.{Role, SequenceHeader, CodecConfig, AudioElement, MixPresentation, Delimiter, ParameterBlock, AudioFrame}
use Rattle.spec_rules.specs.Descriptors.{profiles, codecs, elements, substreams, mixes, frame_length, definitions, channels_of}
use Rattle.spec_rules.specs.Profile.{are_within, fits, has_fit}
use Rattle.spec_rules.specs.Units.{frames_of, delimiters, is_delimited, unit_after, placed, in_units, in_unit, before_unit, streams_in, trims_in, trims_before, blocks_in, is_complete, duration_of, block_end}
use Rattle.spec_rules.specs.Rules.{lacks_descriptors, fault_before, fault_after, end_fault}

-- so many bytes of zero
abbrev zeros : ℕ → List ℕ
zeros zero = []
zeros (suc n) = 0 ∷ zeros n

abbrev cut : ℕ → ℕ → Trim
cut end start = record { end = end; start = start }

-- LPCM of 8 samples in 16 bits; substream 7 has two channels and 9 has one
abbrev head : List Role
head =
    SequenceHeader 0
    ∷ CodecConfig (record { id = 0; frame_length = 8; codec = codec.Lpcm; depth = 16; rate = 48000 })
    ∷ AudioElement (record { id = 1; codec = 0; substreams = 7 ∷ 9 ∷ []; channels = Some (2 ∷ 1 ∷ []); definitions = [] })
    ∷ MixPresentation (record { id = 2; elements = 1 ∷ []; sub_mixes = 1; definitions = record { parameter_id = 100; shape = MixGain 48000 (Some (record { duration = 8; constant_subblock_duration = 8; durations = [] })) } ∷ [] })
    ∷ []

abbrev seven : Trim → Role
seven trim = AudioFrame (record { substream = 7; trim = trim; bytes = zeros 32 })

abbrev nine : Trim → Role
nine trim = AudioFrame (record { substream = 9; trim = trim; bytes = zeros 16 })

abbrev block : Role
block = ParameterBlock (record { id = 100; duration = None })

nothing : end_fault [] ≡ Some Incomplete
unfolding end_fault lacks_descriptors has_fit profiles codecs elements mixes placed
nothing = refl

descriptors_fit : fault_before head obu_type.AudioFrame ≡ None
unfolding fault_before lacks_descriptors fits has_fit profiles codecs elements mixes
descriptors_fit = refl

either_order : end_fault (head ++ nine (cut 0 0) ∷ seven (cut 0 0) ∷ []) ≡ None
unfolding end_fault lacks_descriptors fits has_fit profiles codecs elements mixes substreams frame_length placed frames_of delimiters is_delimited unit_after in_units in_unit streams_in is_complete
either_order = refl

twice_in_a_unit : fault_after (head ++ seven (cut 0 0) ∷ []) (seven (cut 0 0)) ≡ Some UnitFrame
unfolding fault_after profiles codecs elements mixes substreams frame_length channels_of placed frames_of delimiters is_delimited unit_after in_units in_unit before_unit streams_in trims_in trims_before is_complete
twice_in_a_unit = refl

next_unit : fault_after (head ++ seven (cut 0 0) ∷ nine (cut 0 0) ∷ []) (nine (cut 0 0)) ≡ None
unfolding fault_after profiles codecs elements mixes substreams frame_length channels_of placed frames_of delimiters is_delimited unit_after in_units in_unit before_unit streams_in trims_in trims_before is_complete
next_unit = refl

short : end_fault (head ++ Delimiter ∷ nine (cut 0 0) ∷ []) ≡ Some UnitShort
unfolding end_fault lacks_descriptors fits has_fit profiles codecs elements mixes substreams frame_length placed frames_of delimiters is_delimited unit_after in_units in_unit streams_in is_complete
short = refl

trims_agree : fault_after (head ++ seven (cut 2 6) ∷ []) (nine (cut 0 0)) ≡ Some fault.Trim
unfolding fault_after profiles codecs elements mixes substreams frame_length channels_of placed frames_of delimiters is_delimited unit_after in_units in_unit before_unit streams_in trims_in trims_before is_complete
trims_agree = refl

one_byte_more : fault_after head (AudioFrame (record { substream = 7; trim = cut 0 0; bytes = zeros 33 })) ≡ Some Lpcm
unfolding fault_after profiles codecs elements mixes substreams frame_length channels_of placed frames_of delimiters is_delimited unit_after in_units in_unit before_unit streams_in trims_in trims_before is_complete
one_byte_more = refl

in_time : fault_after head block ≡ None
unfolding fault_after profiles codecs elements mixes definitions substreams frame_length placed frames_of delimiters is_delimited unit_after in_units in_unit blocks_in duration_of block_end
in_time = refl

late : fault_after (head ++ block ∷ []) block ≡ Some BlockTime
unfolding fault_after profiles codecs elements mixes definitions substreams frame_length placed frames_of delimiters is_delimited unit_after in_units in_unit blocks_in duration_of block_end
late = refl

-- ---- profiles

within : (are_within 0 1 16 ≡ true) × (are_within 1 2 18 ≡ true) × (are_within 2 28 28 ≡ true)
within = (refl, refl, refl)

above : (are_within 0 2 4 ≡ false) × (are_within 0 1 17 ≡ false) × (are_within 1 3 6 ≡ false) × (are_within 1 2 19 ≡ false) × (are_within 2 29 28 ≡ false) × (are_within 2 28 29 ≡ false) × (are_within 2 0 0 ≡ false)
above = (refl, refl, refl, refl, refl, refl, refl)

-- a mix of two sub-mixes fits no profile
two_sub_mixes : fits head (record { id = 2; elements = 1 ∷ []; sub_mixes = 2; definitions = [] }) ≡ false
unfolding fits profiles elements
two_sub_mixes = refl
