-- The types of OBUs (IAMF 1.0.0, "OBU Header Syntax and Semantics", `obu_type`).
use Rattle.std.specs.Prelude.{ℕ, ◌==◌, nat_le, Bool, true, false, if◌then◌else◌}
use Rattle.spec_obu.specs.declared.obu_type.ObuType.{ObuType}
use Rattle.spec_obu.specs.declared.obu_type.ObuType.TheVariants.{SequenceHeader, CodecConfig, AudioElement, MixPresentation, ParameterBlock, TemporalDelimiter, AudioFrame, Reserved}

-- The type that a number names. An audio frame of type 5 names its substream; those from 6 to 23 are of the substreams 0 to 17.
abbrev pub obu_type_of : ℕ → ObuType
obu_type_of number =
    if number == 31 then SequenceHeader
    else if number == 0 then CodecConfig
    else if number == 1 then AudioElement
    else if number == 2 then MixPresentation
    else if number == 3 then ParameterBlock
    else if number == 4 then TemporalDelimiter
    else if nat_le number 23 then AudioFrame
    else Reserved

-- the types that come before all data, and of which there are redundant copies
abbrev pub is_descriptor : ObuType → Bool
is_descriptor SequenceHeader = true
is_descriptor CodecConfig = true
is_descriptor AudioElement = true
is_descriptor MixPresentation = true
is_descriptor _ = false

-- the types that temporal units are made of
abbrev pub is_data : ObuType → Bool
is_data ParameterBlock = true
is_data TemporalDelimiter = true
is_data AudioFrame = true
is_data _ = false

abbrev pub is_audio_frame : ObuType → Bool
is_audio_frame AudioFrame = true
is_audio_frame _ = false

abbrev pub is_reserved : ObuType → Bool
is_reserved Reserved = true
is_reserved _ = false
