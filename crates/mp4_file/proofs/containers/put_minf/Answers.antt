use Rattle.std.proofs.Common.{append_assoc, ◌∙◌}
use Rattle.mp4_file.specs.Views.{movie_of}
use Rattle.mp4_file.proofs.Boxes.{minf_is}
use Rattle.mp4_file.proofs.containers.put_minf.Goals as goal

pub returns : goal.returns
returns c =
    c.in_ok-put_stbl.ensures ∙ rw (c.in_ok-put_dinf.ensures, c.in_ok-put_smhd.ensures, c.in_ok-put_head.ensures)
    (rw (minf_is (movie_of c.args.movie.now) c.args.place c.minf_len.result (c.minf_len.ensures.exact c.args.place)) (simp append_assoc))
