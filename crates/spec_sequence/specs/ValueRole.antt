-- The role of an OBU, by what it says.
use Rattle.std.specs.Prelude.{ℕ, ◌+◌, ◌*◌, if◌then◌else◌, List, [], ◌∷◌, ◌++◌, map, length, Option, Some, None}
use Rattle.std.specs.List.{flat_map}
use Rattle.spec_obu.specs.declared.obu_type.ObuType.{ObuType}
use Rattle.spec_obu.specs.declared.obu_type.ObuType.TheVariants as obu_type
use Rattle.spec_obu.specs.declared.trim.Trim.{Trim}
use Rattle.spec_obu.specs.Kinds.{obu_type_of}
use Rattle.spec_obu.specs.Header.{Head}
use Rattle.spec_descriptors.specs.CodecConfig.{CodingFields, Lpcm, Flac, CodecConfigFields}
use Rattle.spec_descriptors.specs.ParameterDefinition.{FixedFields}
use Rattle.spec_descriptors.specs.Layers.{LayerFields}
use Rattle.spec_descriptors.specs.AudioElement.{ParameterFields, Demixing, ReconGain, Extension, ConfigFields, Scalable, Ambisonics, Other, AudioElementFields, substream_channels_of}
use Rattle.spec_descriptors.specs.MixGain.{MixGainFields}
use Rattle.spec_descriptors.specs.MixPresentation.{SubMixFields, MixPresentationFields}
use Rattle.spec_blocks.specs.Shape.{Shape, Definition}
use Rattle.spec_blocks.specs.Shape as shape
use Rattle.spec_blocks.specs.ParameterBlock.{ContentFields, Gain}
use Rattle.spec_values.specs.Content.{Content, Header, Codec, Element, Mix, Block, Frame, Nothing}
use Rattle.spec_values.specs.Value.{ObuValue}
use Rattle.spec_rules.specs.declared.codec.Codec.TheVariants as codec
use Rattle.spec_rules.specs.declared.codec_role.CodecRole.{CodecRole}
use Rattle.spec_rules.specs.Role.{ElementRole, MixRole, Role, Ignored, SequenceHeader, CodecConfig, AudioElement, MixPresentation, Delimiter, ParameterBlock, AudioFrame}

abbrev pub codec_role : ℕ → ℕ → CodingFields → CodecRole
codec_role id frame_length (Lpcm is_little depth rate) = record { id = id; frame_length = frame_length; codec = codec.Lpcm; depth = depth; rate = rate }
codec_role id frame_length (Flac info others) = record { id = id; frame_length = frame_length; codec = codec.Flac; depth = info.depth_less_one + 1; rate = info.sample_rate }

abbrev pub role_of_codec : CodecConfigFields → CodecRole
role_of_codec c = codec_role c.codec_config_id c.num_samples_per_frame c.coding

-- ---- the parameter definitions of elements and of mixes

abbrev pub layers_of : ConfigFields → List LayerFields
layers_of (Scalable layers) = layers
layers_of (Ambisonics config) = []
layers_of (Other audio_element_type bytes) = []

-- bit i for layer i
abbrev pub recon_flags_of : List LayerFields → ℕ
recon_flags_of [] = 0
recon_flags_of (layer ∷ layers) = (if layer.recon_gain_is_present then 1 else 0) + 2 * recon_flags_of layers

abbrev pub defined : ℕ → Option FixedFields → (FixedFields → Shape) → List Definition
defined id None shape = []
defined id (Some fixed) shape = record { parameter_id = id; shape = shape fixed } ∷ []

abbrev pub element_definition : List LayerFields → ParameterFields → List Definition
element_definition layers (Demixing d mode weight) = defined d.parameter_id d.fixed (λ fixed. shape.Demixing d.parameter_rate fixed)
element_definition layers (ReconGain d) = defined d.parameter_id d.fixed (λ fixed. shape.ReconGain d.parameter_rate fixed (length layers) (recon_flags_of layers))
element_definition layers (Extension kind bytes) = []

abbrev pub gain_definition : MixGainFields → Definition
gain_definition gain = record { parameter_id = gain.definition.parameter_id; shape = shape.MixGain gain.definition.parameter_rate gain.definition.fixed }

-- those of the elements, and then that of the output
abbrev pub sub_mix_definitions : SubMixFields → List Definition
sub_mix_definitions sub_mix = map (λ e. gain_definition e.element_mix_gain) sub_mix.elements ++ gain_definition sub_mix.output_mix_gain ∷ []

-- ---- roles

abbrev pub element_role : AudioElementFields → ElementRole
element_role e = record {
  id = e.audio_element_id;
  codec = e.codec_config_id;
  substreams = e.audio_substream_ids;
  channels = substream_channels_of e.config;
  definitions = flat_map (element_definition (layers_of e.config)) e.parameters;
}

abbrev pub mix_role : MixPresentationFields → MixRole
mix_role m = record {
  id = m.mix_presentation_id;
  elements = flat_map (λ s. map (λ e. e.audio_element_id) s.elements) m.sub_mixes;
  sub_mixes = length m.sub_mixes;
  definitions = flat_map sub_mix_definitions m.sub_mixes;
}

-- no trim is one of 0 and 0
abbrev pub trim_of : Option Trim → Trim
trim_of None = record { end = 0; start = 0 }
trim_of (Some trim) = trim

abbrev pub own_duration : ContentFields → Option ℕ
own_duration (Gain (Some fixed) gains) = Some fixed.duration
own_duration _ = None

-- a delimiter is the one OBU of nothing that is no reserved one
abbrev pub role_of_nothing : ObuType → Role
role_of_nothing obu_type.TemporalDelimiter = Delimiter
role_of_nothing _ = Ignored

abbrev pub plain_role : Head → Content → List ℕ → Role
plain_role h (Header header) tail = SequenceHeader header.primary_profile
plain_role h (Codec c) tail = CodecConfig (role_of_codec c)
plain_role h (Element e) tail = AudioElement (element_role e)
plain_role h (Mix m) tail = MixPresentation (mix_role m)
plain_role h (Block b) tail = ParameterBlock (record { id = b.parameter_id; duration = own_duration b.content })
plain_role h (Frame s) tail = AudioFrame (record { substream = s; trim = trim_of h.trim; bytes = tail })
plain_role h Nothing tail = role_of_nothing (obu_type_of h.kind)

abbrev pub role_in : Head → Content → List ℕ → Role
role_in h content tail = if h.redundant then Ignored else plain_role h content tail

abbrev pub role : ObuValue → Role
role o = role_in o.head o.content o.tail
