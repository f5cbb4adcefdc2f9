use Rattle.std.proofs.Common.{append_assoc, ◌∙◌}
use Rattle.mp4_file.specs.Views.{movie_of}
use Rattle.mp4_file.proofs.Boxes.{trak_is}
use Rattle.mp4_file.proofs.containers.put_trak.Goals as goal

pub returns : goal.returns
returns c =
    c.in_ok-put_mdia.ensures ∙ rw (c.in_ok-put_edts.ensures, c.in_ok-put_tkhd.ensures, c.in_ok-put_head.ensures)
    (rw (trak_is (movie_of c.args.movie.now) c.args.place c.trak_len.result (c.trak_len.ensures.exact c.args.place)) (simp append_assoc))
