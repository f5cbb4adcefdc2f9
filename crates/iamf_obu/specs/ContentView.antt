-- What a record says, as a content of the definitions with its tail, and when it can be written.
use Rattle.std.specs.Prelude.{◌≡◌, ℕ, List, Option}
use Rattle.spec_syntax.specs.Payload.{IsValid}
use Rattle.spec_obu.specs.declared.trim.Trim.{Trim}
use Rattle.spec_obu.specs.declared.obu_type.ObuType.{ObuType}
use Rattle.spec_obu.specs.declared.obu_type.ObuType.TheVariants as types
use Rattle.spec_descriptors.specs.SequenceHeader.{sequence_header}
use Rattle.spec_descriptors.specs.CodecConfig.{CodecConfigFields, codec_config}
use Rattle.spec_descriptors.specs.AudioElement.{audio_element}
use Rattle.spec_descriptors.specs.DescriptorFields.{sequence_header_fields, codec_config_fields}
use Rattle.spec_descriptors.specs.ElementFields.{audio_element_fields}
use Rattle.spec_blocks.specs.Shape.{shape_of}
use Rattle.spec_blocks.specs.ParameterBlock.{parameter_block}
use Rattle.spec_blocks.specs.AudioFrame.{audio_frame}
use Rattle.spec_blocks.specs.BlockFieldLists.{block_fields, frame_fields}
use Rattle.spec_values.specs.Content as said
use Rattle.spec_values.specs.Content.{Context}
use Rattle.obu_codec_config.specs.HeaderView.{view_header}
use Rattle.obu_codec_config.specs.CodecView.{StandsForCodec}
use Rattle.obu_descriptors.specs.ElementView.{view_element}
use Rattle.obu_mix.specs.MixView.{view_mix, tail_of, IsValidMix}
use Rattle.obu_data.specs.BlockView.{view_block, bytes_after}
use Rattle.obu_data.specs.BlockReading.{FollowsShape}
use Rattle.obu_data.specs.FrameReading.{trim_or_none}
use Rattle.iamf_obu.specs.declared.content.Content.{Content}
use Rattle.iamf_obu.specs.declared.content.Content.TheVariants.{SequenceHeader, CodecConfig, AudioElement, MixPresentation, ParameterBlock, TemporalDelimiter, AudioFrame, Reserved}

-- the type of OBUs that say such a thing
abbrev pub type_in : Content → ObuType
type_in (SequenceHeader h) = types.SequenceHeader
type_in (CodecConfig r) = types.CodecConfig
type_in (AudioElement e) = types.AudioElement
type_in (MixPresentation m) = types.MixPresentation
type_in (ParameterBlock b) = types.ParameterBlock
type_in (TemporalDelimiter bytes) = types.TemporalDelimiter
type_in (AudioFrame f) = types.AudioFrame
type_in (Reserved bytes) = types.Reserved

-- The record is this content, and this is the tail. Of a delimiter and of a reserved OBU nothing is read.
abbrev pub Holds : Content → said.Content → List ℕ → Type 0
Holds (SequenceHeader h) c tail = (c ≡ said.Header (view_header h)) × (tail ≡ h.tail.now)
Holds (CodecConfig r) c tail = (w : CodecConfigFields) × StandsForCodec r w × IsValid codec_config codec_config_fields w × (c ≡ said.Codec w) × (tail ≡ r.tail.now)
Holds (AudioElement e) c tail = (c ≡ said.Element (view_element e.value)) × (tail ≡ e.value.tail.now)
Holds (MixPresentation m) c tail = (c ≡ said.Mix (view_mix m.value)) × (tail ≡ tail_of m.value)
Holds (ParameterBlock b) c tail = (c ≡ said.Block (view_block b)) × (tail ≡ bytes_after b)
Holds (TemporalDelimiter bytes) c tail = (c ≡ said.Nothing) × (tail ≡ bytes.now)
Holds (AudioFrame f) c tail = (c ≡ said.Frame f.substream) × (tail ≡ f.bytes.now)
Holds (Reserved bytes) c tail = (c ≡ said.Nothing) × (tail ≡ bytes.now)

-- The record can be written in an OBU of the type, so that it is read again after the same descriptors.
abbrev pub IsValidContent : Context → ℕ → Content → Type 0
IsValidContent context kind (SequenceHeader h) = IsValid sequence_header sequence_header_fields (view_header h)
IsValidContent context kind (CodecConfig r) = (w : CodecConfigFields) × StandsForCodec r w × IsValid codec_config codec_config_fields w
IsValidContent context kind (AudioElement e) = IsValid (audio_element context.frame_length) audio_element_fields (view_element e.value)
IsValidContent context kind (MixPresentation m) = IsValidMix m.value
IsValidContent context kind (ParameterBlock b) = IsValid (parameter_block context.definitions) block_fields (view_block b) × FollowsShape (shape_of context.definitions b.id) b
IsValidContent context kind (TemporalDelimiter bytes) = Unit {0}
IsValidContent context kind (AudioFrame f) = IsValid (audio_frame kind) (frame_fields kind) f.substream
IsValidContent context kind (Reserved bytes) = Unit {0}

-- a frame has the trims of its header, or none
abbrev pub HasTrims : Content → Option Trim → Type 0
HasTrims (AudioFrame f) trim = f.trim ≡ trim_or_none trim
HasTrims _ trim = Unit {0}
