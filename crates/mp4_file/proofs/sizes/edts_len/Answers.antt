use Rattle.std.proofs.Common.{sym, true, false}
use Rattle.spec_files.proofs.Measured.{edit_len}
use Rattle.mp4_file.specs.Views.{movie_of}
use Rattle.mp4_file.proofs.sizes.edts_len.Goals as goal

pub returns-then-has_edit-clause-exact : goal.returns-then-has_edit-clause-exact
returns-then-has_edit-clause-exact c = rw (c.has_edit.ensures.trimmed c.if-has_edit.true) (sym (edit_len false (movie_of c.args.movie.now)))

pub returns-else-has_edit-clause-exact : goal.returns-else-has_edit-clause-exact
returns-else-has_edit-clause-exact c = rw (c.has_edit.ensures.whole c.if-has_edit.false) (sym (edit_len true (movie_of c.args.movie.now)))
