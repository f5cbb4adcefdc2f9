use Rattle.std.proofs.Common.{append_assoc, sym, true, false, ◌∙◌}
use Rattle.mp4_file.specs.Views.{movie_of}
use Rattle.mp4_file.proofs.UnitCounts.{none_is}
use Rattle.mp4_file.proofs.Boxes.{stsc_none, stsc_some}
use Rattle.mp4_file.proofs.sample_tables.put_stsc.Goals as goal

pub returns-then-is_empty : goal.returns-then-is_empty
returns-then-is_empty c =
    c.in_ok-put_word.ensures ∙ rw c.in_ok-put_full.ensures
    (rw (stsc_none (movie_of c.args.movie.now) (none_is c.args.movie.now true (sym c.is_empty.ensures ∙ c.if-is_empty.true))) (simp append_assoc))

pub returns : goal.returns
returns c =
    c.in_ok-put_word-5.ensures ∙ rw (c.in_ok-put_word-4.ensures, c.in_ok-put_word-3.ensures, c.in_ok-put_word-2.ensures, c.in_ok-put_full-2.ensures)
    (rw (stsc_some (movie_of c.args.movie.now) c.unit_count.result c.unit_count.ensures.count (none_is c.args.movie.now false (sym c.is_empty.ensures ∙ c.if-is_empty.false))) (simp append_assoc))
