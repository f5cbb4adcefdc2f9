-- The fields of sequence headers, codec configs and audio elements fill whole bytes.
use Rattle.std.proofs.Common.{ℕ, List, [], length, refl}
use Rattle.std.specs.Prelude.{Option, Some, None}
use Rattle.spec_syntax.specs.Syntax.{each}
use Rattle.spec_descriptors.specs.SequenceHeader.{sequence_header}
use Rattle.spec_descriptors.specs.CodecConfig.{lpcm_config, stream_info, flac_config, codec_config}
use Rattle.spec_descriptors.specs.ParameterDefinition.{any_duration, frame_timing, frame_definition}
use Rattle.spec_descriptors.specs.Layers.{LayerFields, output_gain, layer_of, layer_at, layer_after, layer_in, scalable_config}
use Rattle.spec_descriptors.specs.Ambisonics.{mapping_in, ambisonics_mono, ambisonics_projection, ambisonics_config}
use Rattle.spec_descriptors.specs.AudioElement.{ParameterFields, substream_id_in, demixing_definition, recon_gain_definition, extension_definition, parameter_of, parameter_in, other_config, scalable_of, ambisonics_of, config_of, element_front, audio_element}
use Rattle.spec_values.proofs.WholeBytes.{FillsBytes, fills_at, fills_bind, fills_each}

pub sequence_header_fills : FillsBytes 0 sequence_header
unfolding sequence_header
sequence_header_fills = λ code primary additional. refl

-- ---- codec configs

flac_fills : FillsBytes 0 flac_config
unfolding flac_config stream_info
flac_fills = λ is_last block_type block_length min_block max_block min_frame max_frame rate channels depth high low digest. (refl, λ others. refl)

lpcm_fills : FillsBytes 0 lpcm_config
unfolding lpcm_config
lpcm_fills = λ flags depth rate. refl

pub codec_config_fills : FillsBytes 0 codec_config
unfolding codec_config
codec_config_fills = λ id codec frame roll. (fills_bind 48 flac_config _ refl flac_fills (λ coding. refl), fills_bind 48 lpcm_config _ refl lpcm_fills (λ coding. refl))

-- ---- parameter definitions

timing_fills : (frame_length : ℕ) → FillsBytes 0 (frame_timing frame_length)
unfolding frame_timing
timing_fills frame_length = λ duration constant. (λ count. fills_bind 0 (each count any_duration []) _ refl (fills_each any_duration (λ m before v. refl) count []) (λ durations. refl), refl)

definition_fills : (frame_length : ℕ) → FillsBytes 0 (frame_definition frame_length)
unfolding frame_definition
definition_fills frame_length = λ id rate mode reserved. fills_bind 8 (frame_timing frame_length) _ refl (timing_fills frame_length) (λ fixed. refl)

parameter_of_fills : (frame_length kind : ℕ) → FillsBytes 0 (parameter_of frame_length kind)
unfolding demixing_definition recon_gain_definition extension_definition
parameter_of_fills frame_length kind = (
  fills_bind 0 (frame_definition frame_length) _ refl (definition_fills frame_length) (λ definition mode reserved weight others. refl),
  (fills_bind 0 (frame_definition frame_length) _ refl (definition_fills frame_length) (λ definition. refl), λ size bytes. refl),
)

parameter_fills : (frame_length type later : ℕ) (before : List ParameterFields) → FillsBytes 0 (parameter_in frame_length type later before)
unfolding parameter_in
parameter_fills frame_length type later before = λ kind. parameter_of_fills frame_length kind

-- ---- configurations

-- the rest of a layer, after the four bits of its layout
layer_of_fills : (before : Option _) (now : _) → FillsBytes 4 (layer_of before now)
unfolding layer_of output_gain
layer_of_fills before now = λ gain recon reserved count coupled. (λ flags others level. refl, refl)

layer_at_fills : (before now : Option _) → FillsBytes 4 (layer_at before now)
layer_at_fills before None = layer_of_fills before _
layer_at_fills before (Some now) = layer_of_fills before now

layer_fills : (later : ℕ) (before : List LayerFields) → FillsBytes 0 (layer_in later before)
unfolding layer_after
layer_fills later before = λ code. layer_at_fills _ _

scalable_fills : FillsBytes 0 scalable_config
unfolding scalable_config
scalable_fills = λ count reserved. fills_at 0 8 (each count layer_in []) refl (fills_each layer_in layer_fills count [])

ambisonics_fills : FillsBytes 0 ambisonics_config
unfolding ambisonics_config ambisonics_mono ambisonics_projection
ambisonics_fills = λ mode. (
  λ outputs count. fills_bind 16 (each outputs (mapping_in count) []) _ refl (fills_each (mapping_in count) (λ m before v. refl) outputs []) (λ mapping. refl),
  λ outputs count coupled matrix. refl,
)

config_fills : (type count : ℕ) → FillsBytes 0 (config_of type count)
unfolding scalable_of ambisonics_of other_config
config_fills type count = (
  fills_bind 0 scalable_config _ refl scalable_fills (λ layers. refl),
  (fills_bind 0 ambisonics_config _ refl ambisonics_fills (λ config. refl), λ size bytes. refl),
)

-- ---- the whole

front_fills : FillsBytes 0 element_front
unfolding element_front
front_fills = λ id type reserved codec count. fills_bind 8 (each count substream_id_in []) _ refl (fills_each substream_id_in (λ m before v. refl) count []) (λ ids. refl)

pub audio_element_fills : (frame_length : ℕ) → FillsBytes 0 (audio_element frame_length)
unfolding audio_element
audio_element_fills frame_length =
    fills_bind 0 element_front _ refl front_fills λ front count.
    fills_bind 0 (each count (parameter_in frame_length front.audio_element_type) []) _ refl (fills_each (parameter_in frame_length front.audio_element_type) (parameter_fills frame_length front.audio_element_type) count [])
    λ parameters. fills_bind 0 (config_of front.audio_element_type (length front.audio_substream_ids)) _ refl (config_fills front.audio_element_type (length front.audio_substream_ids)) (λ config. refl)
