use Rattle.std.proofs.Common.{sym}
use Rattle.iamf_tool.proofs.Decimals.{is_not_parsed, is_spelled, is_spelled_otherwise}
use Rattle.iamf_tool.proofs.arguments.number_of.Goals as goal

pub returns-in-Err : goal.returns-in-Err
returns-in-Err c = sym (is_not_parsed c.args.word.now c.parse.result c.in-Err.field-0 c.parse.ensures.value.0 c.in-Err.is)

pub returns-then-eq : goal.returns-then-eq
returns-then-eq c = sym (is_spelled c.args.word.now c.format.result.now c.parse.result c.in-Ok.number c.parse.ensures.value.0 c.in-Ok.is c.format.ensures.text c.if-eq.ensures)

pub returns-else-eq : goal.returns-else-eq
returns-else-eq c = sym (is_spelled_otherwise c.args.word.now c.format.result.now c.parse.result c.in-Ok.number c.parse.ensures.value.0 c.in-Ok.is c.format.ensures.text c.if-eq.ensures)
