-- What the payload of an OBU says, by the type of the OBU (IAMF 1.0.0, "OBU Header Syntax and Semantics", `obu_type`).
use Rattle.std.specs.Prelude.{◌≡◌, ℕ, List, []}
use Rattle.spec_bits.specs.declared.FieldFault.{FieldFault}
use Rattle.spec_bits.specs.Bits.{AreBytes, all_bits}
use Rattle.spec_syntax.specs.Payload.{FieldValue, Payload, Faults}
use Rattle.spec_obu.specs.declared.obu_type.ObuType.{ObuType}
use Rattle.spec_obu.specs.declared.obu_type.ObuType.TheVariants.{SequenceHeader, CodecConfig, AudioElement, MixPresentation, ParameterBlock, TemporalDelimiter, AudioFrame, Reserved}
use Rattle.spec_obu.specs.Kinds.{obu_type_of}
use Rattle.spec_descriptors.specs.declared.fault.DescriptorFault.{DescriptorFault}
use Rattle.spec_descriptors.specs.declared.fault.DescriptorFault.TheVariants as descriptor
use Rattle.spec_descriptors.specs.declared.fault.MixFault.{MixFault}
use Rattle.spec_descriptors.specs.declared.fault.MixFault.TheVariants as mix
use Rattle.spec_descriptors.specs.SequenceHeader.{SequenceHeaderFields, sequence_header}
use Rattle.spec_descriptors.specs.CodecConfig.{CodecConfigFields, codec_config}
use Rattle.spec_descriptors.specs.AudioElement.{AudioElementFields, audio_element}
use Rattle.spec_descriptors.specs.MixPresentation.{MixPresentationFields, mix_presentation}
use Rattle.spec_descriptors.specs.DescriptorFields.{sequence_header_fields, codec_config_fields}
use Rattle.spec_descriptors.specs.ElementFields.{audio_element_fields}
use Rattle.spec_descriptors.specs.MixFields.{mix_presentation_fields}
use Rattle.spec_blocks.specs.declared.fault.BlockFault.{BlockFault}
use Rattle.spec_blocks.specs.declared.fault.BlockFault.TheVariants as block
use Rattle.spec_blocks.specs.Shape.{Definition}
use Rattle.spec_blocks.specs.ParameterBlock.{BlockFields, parameter_block}
use Rattle.spec_blocks.specs.AudioFrame.{audio_frame}
use Rattle.spec_blocks.specs.BlockFieldLists.{block_fields, frame_fields}
use Rattle.spec_values.specs.declared.fault.Fault.{Fault}
use Rattle.spec_values.specs.declared.fault.Fault.TheVariants as fault

-- An audio frame has the id of its substream. Of a delimiter and of a reserved OBU nothing is read.
pub data Content : Type 0 where
  Header : SequenceHeaderFields → Content
  Codec : CodecConfigFields → Content
  Element : AudioElementFields → Content
  Mix : MixPresentationFields → Content
  Block : BlockFields → Content
  Frame : (substream : ℕ) → Content
  Nothing : Content

-- What the descriptors before an OBU say that its payload is read by: the frame length, or 0 where there is no codec
-- config yet, and the parameter definitions.
pub record Context : Type 0 where
  pub frame_length : ℕ
  pub definitions : List Definition

-- that of descriptors, which are read by no definition
abbrev pub by_length : ℕ → Context
by_length n = record { frame_length = n; definitions = [] }

-- The payload of an OBU of the type says this, and then comes the tail.
abbrev pub Says : Context → ℕ → ObuType → Content → List ℕ → List ℕ → Type 0
Says context obu_type SequenceHeader (Header h) tail payload = Payload sequence_header (sequence_header_fields h) h (all_bits tail) (all_bits payload)
Says context obu_type CodecConfig (Codec c) tail payload = Payload codec_config (codec_config_fields c) c (all_bits tail) (all_bits payload)
Says context obu_type AudioElement (Element e) tail payload = Payload (audio_element context.frame_length) (audio_element_fields e) e (all_bits tail) (all_bits payload)
Says context obu_type MixPresentation (Mix m) tail payload = Payload mix_presentation (mix_presentation_fields m) m (all_bits tail) (all_bits payload)
Says context obu_type ParameterBlock (Block b) tail payload = Payload (parameter_block context.definitions) (block_fields b) b (all_bits tail) (all_bits payload)
Says context obu_type TemporalDelimiter Nothing tail payload = tail ≡ payload
Says context obu_type AudioFrame (Frame s) tail payload = Payload (audio_frame obu_type) (frame_fields obu_type s) s (all_bits tail) (all_bits payload)
Says context obu_type Reserved Nothing tail payload = tail ≡ payload
Says context obu_type _ _ tail payload = ⊥

pub record PayloadOf (context : Context) (obu_type : ℕ) (content : Content) (tail payload : List ℕ) : Type 0 where
  pub says : Says context obu_type (obu_type_of obu_type) content tail payload
  pub bytes : AreBytes payload
  pub tail_is : AreBytes tail

-- The first fault of a payload that says nothing, field by field.
abbrev pub SaysNot : Context → ℕ → ObuType → Fault → List ℕ → Type 0
SaysNot context obu_type SequenceHeader f payload = (d : DescriptorFault) × (f ≡ fault.Descriptor d) × Faults (λ e. descriptor.Field e) sequence_header [] d (all_bits payload)
SaysNot context obu_type CodecConfig f payload = (d : DescriptorFault) × (f ≡ fault.Descriptor d) × Faults (λ e. descriptor.Field e) codec_config [] d (all_bits payload)
SaysNot context obu_type AudioElement f payload = (d : DescriptorFault) × (f ≡ fault.Descriptor d) × Faults (λ e. descriptor.Field e) (audio_element context.frame_length) [] d (all_bits payload)
SaysNot context obu_type MixPresentation f payload = (m : MixFault) × (f ≡ fault.Mix m) × Faults (λ e. mix.Field e) mix_presentation [] m (all_bits payload)
SaysNot context obu_type ParameterBlock f payload = (b : BlockFault) × (f ≡ fault.Block b) × Faults (λ e. block.Field e) (parameter_block context.definitions) [] b (all_bits payload)
SaysNot context obu_type TemporalDelimiter f payload = ⊥
SaysNot context obu_type AudioFrame f payload = (e : FieldFault) × (f ≡ fault.Frame e) × Faults (λ e. e) (audio_frame obu_type) [] e (all_bits payload)
SaysNot context obu_type Reserved f payload = ⊥

abbrev pub PayloadFault : Context → ℕ → Fault → List ℕ → Type 0
PayloadFault context obu_type f payload = SaysNot context obu_type (obu_type_of obu_type) f payload

-- the fields that a content stands for, in an OBU of the type
abbrev pub fields_of : ℕ → Content → List FieldValue
fields_of obu_type (Header h) = sequence_header_fields h
fields_of obu_type (Codec c) = codec_config_fields c
fields_of obu_type (Element e) = audio_element_fields e
fields_of obu_type (Mix m) = mix_presentation_fields m
fields_of obu_type (Block b) = block_fields b
fields_of obu_type (Frame s) = frame_fields obu_type s
fields_of obu_type Nothing = []
