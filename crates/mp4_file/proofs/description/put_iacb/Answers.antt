use Rattle.std.proofs.Common.{append_assoc, ◌∙◌}
use Rattle.mp4_file.specs.Views.{movie_of}
use Rattle.mp4_file.proofs.Boxes.{iacb_is}
use Rattle.mp4_file.proofs.description.put_iacb.Goals as goal

pub returns : goal.returns
returns c =
    c.in_ok-put_pieces.ensures ∙ rw (c.in_ok-put_leb.ensures, c.in_ok-push.ensures.items, c.in_ok-put_head.ensures, c.descriptors_len.ensures.exact)
    (rw (iacb_is (movie_of c.args.movie.now) c.iacb_len.result c.iacb_len.ensures.exact) (simp append_assoc))
