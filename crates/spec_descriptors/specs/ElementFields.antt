-- The fields that an audio element stands for, one after the other.
use Rattle.std.specs.Prelude.{ℕ, ◌+◌, ◌*◌, Bool, List, [], ◌∷◌, ◌++◌, Option, Some, None, length, if◌then◌else◌}
use Rattle.spec_bits.specs.Form.{Number, Signed, Leb128, Bytes, Reserved}
use Rattle.spec_syntax.specs.Payload.{FieldValue, a_field}
use Rattle.spec_syntax.specs.Repetition.{joined}
use Rattle.spec_layouts.specs.Layouts.{code_of}
use Rattle.spec_descriptors.specs.TimingFields.{leb_fields, definition_fields}
use Rattle.spec_descriptors.specs.Layers.{OutputGainFields, LayerFields}
use Rattle.spec_descriptors.specs.Ambisonics.{AmbisonicsFields, Mono, Projection}
use Rattle.spec_descriptors.specs.AudioElement.{ParameterFields, Demixing, ReconGain, Extension, ConfigFields, Scalable, Ambisonics, Other, FrontFields, AudioElementFields, type_of}

-- bytes after their number
abbrev pub sized_fields : List ℕ → List FieldValue
sized_fields bytes = a_field Leb128 (length bytes) ∷ a_field (Bytes (length bytes)) bytes ∷ []

-- ---- parameters

abbrev pub default_fields : ℕ → ℕ → List FieldValue
default_fields dmixp_mode default_w =
    a_field (Number 3) dmixp_mode ∷ a_field (Reserved 5) tt ∷ a_field (Number 4) default_w ∷ a_field (Reserved 4) tt ∷ []

abbrev pub parameter_fields : ParameterFields → List FieldValue
parameter_fields (Demixing definition dmixp_mode default_w) = a_field Leb128 1 ∷ (definition_fields definition ++ default_fields dmixp_mode default_w)
parameter_fields (ReconGain definition) = a_field Leb128 2 ∷ definition_fields definition
parameter_fields (Extension kind bytes) = a_field Leb128 kind ∷ sized_fields bytes

-- ---- layers

abbrev pub flag_of : Bool → ℕ
flag_of b = if b then 1 else 0

abbrev pub gain_flag : Option OutputGainFields → ℕ
gain_flag None = 0
gain_flag (Some gain) = 1

abbrev pub gain_fields : Option OutputGainFields → List FieldValue
gain_fields None = []
gain_fields (Some gain) = a_field (Number 6) gain.output_gain_flags ∷ a_field (Reserved 2) tt ∷ a_field (Signed 16) gain.output_gain ∷ []

-- a layer's fields after its layout
abbrev pub counts_fields : LayerFields → List FieldValue
counts_fields layer =
    a_field (Number 1) (gain_flag layer.gain)
    ∷ a_field (Number 1) (flag_of layer.recon_gain_is_present)
    ∷ a_field (Reserved 2) tt
    ∷ a_field (Number 8) layer.substream_count
    ∷ a_field (Number 8) layer.coupled_substream_count
    ∷ gain_fields layer.gain

abbrev pub layer_fields : LayerFields → List FieldValue
layer_fields layer = a_field (Number 4) (code_of layer.loudspeaker_layout) ∷ counts_fields layer

abbrev pub scalable_fields : List LayerFields → List FieldValue
scalable_fields layers = a_field (Number 3) (length layers) ∷ a_field (Reserved 5) tt ∷ joined layer_fields layers

-- ---- ambisonics

abbrev pub mapping_fields : ℕ → List FieldValue
mapping_fields n = a_field (Number 8) n ∷ []

abbrev pub ambisonics_fields : AmbisonicsFields → List FieldValue
ambisonics_fields (Mono outputs substreams mapping) =
    a_field Leb128 0 ∷ a_field (Number 8) outputs ∷ a_field (Number 8) substreams ∷ joined mapping_fields mapping
ambisonics_fields (Projection outputs substreams coupled matrix) =
    a_field Leb128 1
    ∷ a_field (Number 8) outputs
    ∷ a_field (Number 8) substreams
    ∷ a_field (Number 8) coupled
    ∷ a_field (Bytes (2 * ((substreams + coupled) * outputs))) matrix
    ∷ []

-- ---- the whole element

abbrev pub config_fields : ConfigFields → List FieldValue
config_fields (Scalable layers) = scalable_fields layers
config_fields (Ambisonics config) = ambisonics_fields config
config_fields (Other audio_element_type bytes) = sized_fields bytes

abbrev pub front_fields : FrontFields → List FieldValue
front_fields front =
    a_field Leb128 front.audio_element_id
    ∷ a_field (Number 3) front.audio_element_type
    ∷ a_field (Reserved 5) tt
    ∷ a_field Leb128 front.codec_config_id
    ∷ a_field Leb128 (length front.audio_substream_ids)
    ∷ joined leb_fields front.audio_substream_ids

abbrev pub front_of : AudioElementFields → FrontFields
front_of e = record {
  audio_element_id = e.audio_element_id;
  audio_element_type = type_of e.config;
  codec_config_id = e.codec_config_id;
  audio_substream_ids = e.audio_substream_ids;
}

abbrev pub audio_element_fields : AudioElementFields → List FieldValue
audio_element_fields e =
    front_fields (front_of e) ++ a_field Leb128 (length e.parameters) ∷ (joined parameter_fields e.parameters ++ config_fields e.config)
