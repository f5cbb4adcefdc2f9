-- The fields that a sequence header has.
use Rattle.spec_descriptors.specs.SequenceHeader.{SequenceHeaderFields}
use Rattle.obu_codec_config.specs.declared.sequence_header.SequenceHeader.{SequenceHeader}

abbrev pub view_header : SequenceHeader → SequenceHeaderFields
view_header h = record { primary_profile = h.primary; additional_profile = h.additional }
