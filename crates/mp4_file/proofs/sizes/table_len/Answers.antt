use Rattle.std.proofs.Common.{sym, ◌∙◌, true, false}
use Rattle.mp4_file.proofs.UnitCounts.{none_is, row_is, no_row}
use Rattle.mp4_file.proofs.sizes.table_len.Goals as goal

pub returns-then-is_empty-clause-exact : goal.returns-then-is_empty-clause-exact
returns-then-is_empty-clause-exact c = λ bytes long. no_row _ bytes (none_is c.args.movie.now true (sym c.is_empty.ensures ∙ c.if-is_empty.true))

pub returns-else-is_empty-clause-exact : goal.returns-else-is_empty-clause-exact
returns-else-is_empty-clause-exact c = λ bytes long. row_is _ bytes c.args.row (none_is c.args.movie.now false (sym c.is_empty.ensures ∙ c.if-is_empty.false)) long
