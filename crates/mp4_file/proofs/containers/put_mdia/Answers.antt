use Rattle.std.proofs.Common.{append_assoc, ◌∙◌}
use Rattle.mp4_file.specs.Views.{movie_of}
use Rattle.mp4_file.proofs.Boxes.{mdia_is}
use Rattle.mp4_file.proofs.containers.put_mdia.Goals as goal

pub returns : goal.returns
returns c =
    c.in_ok-put_minf.ensures ∙ rw (c.in_ok-put_hdlr.ensures, c.in_ok-put_mdhd.ensures, c.in_ok-put_head.ensures)
    (rw (mdia_is (movie_of c.args.movie.now) c.args.place c.mdia_len.result (c.mdia_len.ensures.exact c.args.place)) (simp append_assoc))
