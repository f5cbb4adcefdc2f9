use Rattle.std.proofs.Common.{sym, ◌∙◌}
use Rattle.std.proofs.lemmas.Bool.{not-true}
use Rattle.iamf_sequence.proofs.ShortestHeaders.{no_fields_frame, no_fields_delimiter, no_fields_reserved}
use Rattle.iamf_sequence.proofs.spelling.has_no_fields.Goals as goal

pub returns-in-AudioFrame : goal.returns-in-AudioFrame
returns-in-AudioFrame c = λ other. no_fields_frame c.args.head.now.kind (sym c.obu_type.ensures ∙ c.in-AudioFrame.is) (not-true _ other)

pub returns-in-TemporalDelimiter : goal.returns-in-TemporalDelimiter
returns-in-TemporalDelimiter c = λ yes. no_fields_delimiter c.args.head.now.kind (sym c.obu_type.ensures ∙ c.in-TemporalDelimiter.is)

pub returns-in-Reserved : goal.returns-in-Reserved
returns-in-Reserved c = λ yes. no_fields_reserved c.args.head.now.kind (sym c.obu_type.ensures ∙ c.in-Reserved.is)
