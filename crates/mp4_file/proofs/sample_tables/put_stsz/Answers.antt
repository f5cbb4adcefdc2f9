use Rattle.std.proofs.Common.{append_assoc, ◌∙◌}
use Rattle.mp4_file.specs.Views.{movie_of}
use Rattle.mp4_file.proofs.UnitCounts.{lengths_are}
use Rattle.mp4_file.proofs.Boxes.{stsz_is}
use Rattle.mp4_file.proofs.sample_tables.put_stsz.Goals as goal

pub returns : goal.returns
returns c =
    c.in_ok-put_lengths.ensures ∙ rw (c.in_ok-put_word-2.ensures, c.in_ok-put_word.ensures, c.in_ok-put_full.ensures)
    (rw (stsz_is (movie_of c.args.movie.now) c.stsz_len.result c.unit_count.result _ c.stsz_len.ensures.exact c.unit_count.ensures.count (lengths_are c.args.movie.now)) (simp append_assoc))
