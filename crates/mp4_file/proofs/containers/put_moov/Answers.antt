use Rattle.std.proofs.Common.{append_assoc, ◌∙◌}
use Rattle.mp4_file.specs.Views.{movie_of}
use Rattle.mp4_file.proofs.Boxes.{moov_is}
use Rattle.mp4_file.proofs.containers.put_moov.Goals as goal

pub returns : goal.returns
returns c =
    c.in_ok-put_trak.ensures ∙ rw (c.in_ok-put_mvhd.ensures, c.in_ok-put_head.ensures)
    (rw (moov_is (movie_of c.args.movie.now) c.args.place c.moov_len.result (c.moov_len.ensures.exact c.args.place)) (simp append_assoc))
