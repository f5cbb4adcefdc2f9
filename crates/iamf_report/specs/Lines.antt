-- What the report says of a sequence: the numbers, names and marks that its lines print, and the tags of its mixes.
use Rattle.std.specs.Prelude.{ℕ, Bool, List, map, length, sum}
use Rattle.spec_descriptors.specs.SequenceHeader.{SequenceHeaderFields}
use Rattle.spec_descriptors.specs.AudioElement.{ConfigFields, Scalable, Ambisonics, Other, AudioElementFields, coded_channels_of}
use Rattle.spec_descriptors.specs.MixPresentation.{MixPresentationFields}
use Rattle.spec_descriptors.specs.Tags.{Tag, tags_of}
use Rattle.spec_values.specs.Value.{ObuValue}
use Rattle.spec_rules.specs.declared.codec_role.CodecRole.{CodecRole}
use Rattle.spec_rules.specs.Role.{Role}
use Rattle.spec_rules.specs.Profile.{fits}
use Rattle.spec_rules.specs.Units.{unit_count}
use Rattle.spec_sequence.specs.ValueRole.{role_of_codec, mix_role}
use Rattle.spec_sequence.specs.Parts.{roles_of, sequence_headers, codec_configs, audio_elements, MixValue, mix_values}
use Rattle.spec_report.specs.Report.{known_channels, tags_or_none}
use Rattle.spec_rules.specs.Samples.{kept}
use Rattle.iamf_report.specs.declared.line.ElementKind.{ElementKind}
use Rattle.iamf_report.specs.declared.line.ElementKind.TheVariants as kinds
use Rattle.iamf_report.specs.declared.line.ElementLine.{ElementLine}
use Rattle.iamf_report.specs.declared.line.MixLine.{MixLine}

-- of a mix presentation and of its tags
pub record MixFacts : Type 0 where
  pub mix : MixLine
  pub tags : List Tag

-- of the descriptors, in their order
pub record DescriptorFacts : Type 0 where
  pub headers : List SequenceHeaderFields
  pub codecs : List CodecRole
  pub elements : List ElementLine
  pub mixes : List MixFacts

pub record Facts : Type 0 where
  pub descriptors : DescriptorFacts
  pub units : ℕ
  pub samples : ℕ

abbrev pub config_kind : ConfigFields → ElementKind
config_kind (Scalable layers) = kinds.Scalable
config_kind (Ambisonics config) = kinds.Scene
config_kind (Other audio_element_type bytes) = kinds.Other

abbrev pub element_facts : AudioElementFields → ElementLine
element_facts e = record {
  id = e.audio_element_id;
  kind = config_kind e.config;
  substreams = length e.audio_substream_ids;
  channels = known_channels (coded_channels_of e.config);
}

-- of a mix presentation that fits or not
abbrev pub marked_mix : Bool → MixPresentationFields → MixLine
marked_mix fit m = record {
  id = m.mix_presentation_id;
  sub_mixes = length m.sub_mixes;
  elements = sum (map (λ s. length s.elements) m.sub_mixes);
  fits = fit;
}

abbrev pub mix_facts : List Role → MixValue → MixFacts
mix_facts l m = record { mix = marked_mix (fits l (mix_role m.fields)) m.fields; tags = tags_or_none (tags_of m.tail) }

unfoldable pub descriptor_facts : List ObuValue → DescriptorFacts
descriptor_facts s = record {
  headers = sequence_headers s;
  codecs = map role_of_codec (codec_configs s);
  elements = map element_facts (audio_elements s);
  mixes = map (mix_facts (roles_of s)) (mix_values s);
}

unfoldable pub facts_of : List ObuValue → Facts
facts_of s = record { descriptors = descriptor_facts s; units = unit_count (roles_of s); samples = kept (roles_of s) }
