use Rattle.std.proofs.Common.{sym, ap, ◌∙◌, length}
use Rattle.mp4_file.proofs.UnitCounts.{data_is}
use Rattle.mp4_file.proofs.sizes.data_len.Goals as goal

pub returns-clause-exact : goal.returns-clause-exact
returns-clause-exact c = c.joined_len.ensures ∙ sym (ap length (data_is c.args.movie.now))
