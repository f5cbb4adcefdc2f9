use Rattle.std.proofs.Common.{append_assoc, ◌∙◌}
use Rattle.mp4_file.specs.Views.{movie_of}
use Rattle.mp4_file.proofs.Boxes.{stsd_is}
use Rattle.mp4_file.proofs.description.put_stsd.Goals as goal

pub returns : goal.returns
returns c =
    c.in_ok-put_iacb.ensures ∙ rw (c.in_ok-put_entry_fields.ensures, c.in_ok-put_head.ensures, c.in_ok-put_word.ensures, c.in_ok-put_full.ensures)
    (rw (stsd_is (movie_of c.args.movie.now) c.stsd_len.result c.entry_len.result c.stsd_len.ensures.exact c.entry_len.ensures.exact) (simp append_assoc))
