-- The role of what was read, and what is made for it.
use Rattle.std.specs.Prelude.{◌≡◌, ℕ, List, [], length, map, Option, Vec}
use Rattle.std.specs.Global.{Global}
use Rattle.std.specs.Option.{option_map}
use Rattle.spec_descriptors.specs.AudioElement.{substream_channels_of}
use Rattle.spec_rules.specs.Role as roles
use Rattle.spec_rules.specs.declared.codec.Codec.TheVariants as codec
use Rattle.spec_rules.specs.declared.codec_role.CodecRole.{CodecRole}
use Rattle.spec_sequence.specs.ValueRole.{element_role, mix_role, own_duration}
use Rattle.obu_descriptors.specs.declared.audio_element.AudioElement.{AudioElement}
use Rattle.obu_codec_config.specs.declared.codec_config.CodecConfig.{CodecConfig}
use Rattle.obu_codec_config.specs.declared.codec_config.Coding.{Coding}
use Rattle.obu_codec_config.specs.declared.codec_config.Coding.TheVariants as coding
use Rattle.obu_descriptors.specs.ElementView.{view_element}
use Rattle.obu_element_config.specs.ConfigView.{view_config}
use Rattle.obu_mix.specs.declared.mix_presentation.MixPresentation.{MixPresentation}
use Rattle.obu_mix.specs.MixView.{view_mix}
use Rattle.obu_data.specs.BlockView.{view_content}
use Rattle.obu_data.specs.DefinitionView.{view_definition}
use Rattle.iamf_obu.specs.declared.content.Content as obu
use Rattle.iamf_obu.specs.declared.content.Content.TheVariants as contents
use Rattle.iamf_admission.specs.declared.parts.Parts.{Parts}
use Rattle.iamf_admission.specs.Defining.{Defines}

abbrev pub view_channels : Option (Vec ℕ Global) → Option (List ℕ)
view_channels channels = option_map (λ v. v.items) channels

-- ---- what is made of a content

-- Where the frame length is 0, before a codec config, definitions are not looked at.
pub record HasElementParts (frame_length : ℕ) (e : AudioElement) (p : Parts) : Type 0 where
  pub channels : view_channels p.channels ≡ substream_channels_of (view_config (length e.substreams.items) e.config)
  pub definitions : (frame_length ≡ 0 → ⊥) → Defines [] p.definitions.items (element_role (view_element e)).definitions

pub record HasMixParts (m : MixPresentation) (p : Parts) : Type 0 where
  pub elements : p.elements.items ≡ (mix_role (view_mix m)).elements
  pub definitions : Defines [] p.definitions.items (mix_role (view_mix m)).definitions

abbrev pub HasParts : ℕ → obu.Content → Parts → Type 0
HasParts frame_length (contents.AudioElement e) p = HasElementParts frame_length e.value p
HasParts frame_length (contents.MixPresentation m) p = HasMixParts m.value p
HasParts frame_length _ p = Unit {0}

-- ---- its role

abbrev pub coding_role : ℕ → ℕ → Coding → CodecRole
coding_role id frame_length (coding.Lpcm little depth rate) = record { id = id; frame_length = frame_length; codec = codec.Lpcm; depth = depth; rate = rate }
coding_role id frame_length (coding.Flac blocks depth rate) = record { id = id; frame_length = frame_length; codec = codec.Flac; depth = depth; rate = rate }

abbrev pub codec_role_in : CodecConfig → CodecRole
codec_role_in r = coding_role r.id r.frame_length r.coding

abbrev pub role_with : obu.Content → Parts → roles.Role
role_with (contents.SequenceHeader h) p = roles.SequenceHeader h.primary
role_with (contents.CodecConfig r) p = roles.CodecConfig (codec_role_in r)
role_with (contents.AudioElement e) p = roles.AudioElement (record {
  id = e.value.id;
  codec = e.value.codec;
  substreams = e.value.substreams.items;
  channels = view_channels p.channels;
  definitions = map view_definition p.definitions.items;
})
role_with (contents.MixPresentation m) p = roles.MixPresentation (record {
  id = m.value.id;
  elements = p.elements.items;
  sub_mixes = length m.value.sub_mixes.items;
  definitions = map view_definition p.definitions.items;
})
role_with (contents.ParameterBlock b) p = roles.ParameterBlock (record { id = b.id; duration = own_duration (view_content b.content) })
role_with (contents.TemporalDelimiter bytes) p = roles.Delimiter
role_with (contents.AudioFrame f) p = roles.AudioFrame (record { substream = f.substream; trim = f.trim; bytes = f.bytes.now })
role_with (contents.Reserved bytes) p = roles.Ignored
