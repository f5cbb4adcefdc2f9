-- IAMF 1.0.0, "Audio Element OBU Syntax and Semantics".
use Rattle.std.specs.Prelude.{ℕ, Bool, not, ◌&&◌, ◌||◌, List, [], ◌∷◌, ◌++◌, ◌==◌, length, Option, Some, None, option_map, sum, replicate, ◌-◌}
use Rattle.std.specs.List.{list_any}
use Rattle.spec_bits.specs.Form.{Number, Leb128, Bytes, Reserved}
use Rattle.spec_syntax.specs.Syntax.{Syntax, End, Choice, field, refuse, check, each, ◌>>=◌, ◌>>◌}
use Rattle.spec_descriptors.specs.declared.fault.DescriptorFault.{DescriptorFault}
use Rattle.spec_descriptors.specs.declared.fault.DescriptorFault.TheVariants as fault
use Rattle.spec_descriptors.specs.ParameterDefinition.{DefinitionFields, frame_definition}
use Rattle.spec_descriptors.specs.Layers.{LayerFields, scalable_config}
use Rattle.spec_descriptors.specs.Layers as layers
use Rattle.spec_descriptors.specs.Ambisonics.{AmbisonicsFields, Mono, Projection, ambisonics_config}
use Rattle.spec_descriptors.specs.Ambisonics as ambisonics

-- a demixing definition with its default mode and weight, a recon-gain definition, or one of a type above 2, which is kept unread
pub data ParameterFields : Type 0 where
  Demixing : DefinitionFields → (dmixp_mode default_w : ℕ) → ParameterFields
  ReconGain : DefinitionFields → ParameterFields
  Extension : (param_definition_type : ℕ) → List ℕ → ParameterFields

pub data ConfigFields : Type 0 where
  Scalable : List LayerFields → ConfigFields
  Ambisonics : AmbisonicsFields → ConfigFields
  Other : (audio_element_type : ℕ) → List ℕ → ConfigFields

pub record AudioElementFields : Type 0 where
  pub audio_element_id : ℕ
  pub codec_config_id : ℕ
  pub audio_substream_ids : List ℕ
  pub parameters : List ParameterFields
  pub config : ConfigFields

-- `audio_element_type`
abbrev pub type_of : ConfigFields → ℕ
type_of (Scalable layers) = 0
type_of (Ambisonics config) = 1
type_of (Other audio_element_type bytes) = audio_element_type

-- `param_definition_type`
abbrev pub kind_of : ParameterFields → ℕ
kind_of (Demixing definition mode weight) = 1
kind_of (ReconGain definition) = 2
kind_of (Extension kind bytes) = kind

abbrev pub substream_id_in : ℕ → List ℕ → Syntax DescriptorFault ℕ
substream_id_in after before = field Leb128 []

-- 0 is no type; 1 and 2 stand at most once each, and in scalable elements alone
abbrev pub is_refused_kind : ℕ → List ParameterFields → ℕ → Bool
is_refused_kind audio_element_type before kind =
    kind == 0 || ((kind == 1 || kind == 2) && (not (audio_element_type == 0) || list_any (λ p. kind_of p == kind) before))

unfoldable pub demixing_definition : ℕ → Syntax DescriptorFault ParameterFields
demixing_definition frame_length = do
  definition ← frame_definition frame_length
  dmixp_mode ← field (Number 3) []
  field (Reserved 5) []
  default_w ← field (Number 4) []
  field (Reserved 4) []
  End (Demixing definition dmixp_mode default_w)

unfoldable pub recon_gain_definition : ℕ → Syntax DescriptorFault ParameterFields
recon_gain_definition frame_length = do
  definition ← frame_definition frame_length
  End (ReconGain definition)

unfoldable pub extension_definition : ℕ → Syntax DescriptorFault ParameterFields
extension_definition kind = do
  param_definition_size ← field Leb128 []
  param_definition_bytes ← field (Bytes param_definition_size) []
  End (Extension kind param_definition_bytes)

abbrev pub parameter_of : ℕ → ℕ → Syntax DescriptorFault ParameterFields
parameter_of frame_length kind =
    Choice (kind == 1) (demixing_definition frame_length) (Choice (kind == 2) (recon_gain_definition frame_length) (extension_definition kind))

unfoldable pub parameter_in : ℕ → ℕ → ℕ → List ParameterFields → Syntax DescriptorFault ParameterFields
parameter_in frame_length audio_element_type after before = do
  param_definition_type ← field Leb128 (refuse fault.ParamKind (λ kind. is_refused_kind audio_element_type before kind) ∷ [])
  parameter_of frame_length param_definition_type

unfoldable pub other_config : ℕ → Syntax DescriptorFault ConfigFields
other_config audio_element_type = do
  audio_element_config_size ← field Leb128 []
  audio_element_config_bytes ← field (Bytes audio_element_config_size) []
  End (Other audio_element_type audio_element_config_bytes)

-- The number of substreams is compared after the last field of the configuration.
unfoldable pub scalable_of : ℕ → Syntax DescriptorFault ConfigFields
scalable_of num_substreams = do
  config ← scalable_config
  check fault.Substreams (not (num_substreams == layers.substreams_of config))
  End (Scalable config)

unfoldable pub ambisonics_of : ℕ → Syntax DescriptorFault ConfigFields
ambisonics_of num_substreams = do
  config ← ambisonics_config
  check fault.Substreams (not (num_substreams == ambisonics.substreams_of config))
  End (Ambisonics config)

abbrev pub config_of : ℕ → ℕ → Syntax DescriptorFault ConfigFields
config_of audio_element_type num_substreams =
    Choice (audio_element_type == 0) (scalable_of num_substreams) (Choice (audio_element_type == 1) (ambisonics_of num_substreams) (other_config audio_element_type))

-- the front of an element: its id, type, codec config's id and the ids of its substreams
pub record FrontFields : Type 0 where
  pub audio_element_id : ℕ
  pub audio_element_type : ℕ
  pub codec_config_id : ℕ
  pub audio_substream_ids : List ℕ

unfoldable pub element_front : Syntax DescriptorFault FrontFields
element_front = do
  audio_element_id ← field Leb128 []
  audio_element_type ← field (Number 3) []
  field (Reserved 5) []
  codec_config_id ← field Leb128 []
  num_substreams ← field Leb128 []
  audio_substream_ids ← each num_substreams substream_id_in []
  End (record {
    audio_element_id = audio_element_id;
    audio_element_type = audio_element_type;
    codec_config_id = codec_config_id;
    audio_substream_ids = audio_substream_ids;
  })

-- `frame_length` is that of the codec config before the element, or 0 where there is none.
unfoldable pub audio_element : ℕ → Syntax DescriptorFault AudioElementFields
audio_element frame_length = do
  front ← element_front
  num_parameters ← field Leb128 []
  parameters ← each num_parameters (parameter_in frame_length front.audio_element_type) []
  config ← config_of front.audio_element_type (length front.audio_substream_ids)
  End (record {
    audio_element_id = front.audio_element_id;
    codec_config_id = front.codec_config_id;
    audio_substream_ids = front.audio_substream_ids;
    parameters = parameters;
    config = config;
  })

-- ---- channels (IAMF 1.0.0, "substream_count" and "coupled_substream_count")

-- coupled substreams, of two channels, and then others, of one
abbrev pub coupled_first : (substreams coupled : ℕ) → List ℕ
coupled_first substreams coupled = replicate coupled 2 ++ replicate (substreams - coupled) 1

abbrev pub layer_channels : List LayerFields → List ℕ
layer_channels [] = []
layer_channels (layer ∷ layers) = coupled_first layer.substream_count layer.coupled_substream_count ++ layer_channels layers

-- the number of channels of each substream in order; none is known of the types that are kept unread
abbrev pub substream_channels_of : ConfigFields → Option (List ℕ)
substream_channels_of (Scalable layers) = Some (layer_channels layers)
substream_channels_of (Ambisonics (Mono outputs substreams mapping)) = Some (coupled_first substreams 0)
substream_channels_of (Ambisonics (Projection outputs substreams coupled matrix)) = Some (coupled_first substreams coupled)
substream_channels_of (Other audio_element_type bytes) = None

-- the number of channels of all substreams
abbrev pub coded_channels_of : ConfigFields → Option ℕ
coded_channels_of config = option_map (λ channels. sum channels) (substream_channels_of config)
