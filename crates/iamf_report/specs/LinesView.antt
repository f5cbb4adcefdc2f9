-- What contracts see of the lines that the program holds.
use Rattle.std.specs.Prelude.{map, option_to_list, option_map}
use Rattle.spec_descriptors.specs.SequenceHeader.{SequenceHeaderFields}
use Rattle.spec_descriptors.specs.Tags.{Tag}
use Rattle.spec_rules.specs.declared.codec_role.CodecRole.{CodecRole}
use Rattle.iamf_report.specs.Lines.{MixFacts, DescriptorFacts}
use Rattle.iamf_report.specs.declared.line.HeaderLine.{HeaderLine}
use Rattle.iamf_report.specs.declared.line.CodecLine.{CodecLine}
use Rattle.iamf_report.specs.declared.line.TagLine.{TagLine}
use Rattle.iamf_report.specs.declared.line.MixLines.{MixLines}
use Rattle.iamf_report.specs.declared.line.Lines.{Lines}

abbrev pub view_header : HeaderLine → SequenceHeaderFields
view_header h = record { primary_profile = h.primary; additional_profile = h.additional }

abbrev pub view_codec : CodecLine → CodecRole
view_codec c = record { id = c.id; frame_length = c.frame_length; codec = c.codec; depth = c.depth; rate = c.rate }

abbrev pub view_tag : TagLine → Tag
view_tag t = record { name = t.name.items; value = t.value.items }

abbrev pub view_mix : MixLines → MixFacts
view_mix m = record { mix = m.mix; tags = map view_tag m.tags.items }

abbrev pub view_lines : Lines → DescriptorFacts
view_lines l = record {
  headers = option_to_list (option_map view_header l.header);
  codecs = option_to_list (option_map view_codec l.codec);
  elements = l.elements.items;
  mixes = map view_mix l.mixes.items;
}
