use Rattle.std.proofs.Common.{append_assoc, ◌∙◌}
use Rattle.mp4_file.specs.Views.{movie_of}
use Rattle.mp4_file.proofs.Boxes.{stbl_is}
use Rattle.mp4_file.proofs.containers.put_stbl.Goals as goal

pub returns : goal.returns
returns c =
    c.in_ok-put_stco.ensures ∙ rw (c.in_ok-put_stsz.ensures, c.in_ok-put_stsc.ensures, c.in_ok-put_stts.ensures, c.in_ok-put_stsd.ensures, c.in_ok-put_head.ensures)
    (rw (stbl_is (movie_of c.args.movie.now) c.args.place c.stbl_len.result (c.stbl_len.ensures.exact c.args.place)) (simp append_assoc))
