use Rattle.std.proofs.Common.{append_assoc, ◌∙◌}
use Rattle.mp4_file.proofs.track_header.put_edit.Goals as goal

pub returns : goal.returns
returns c = c.in_ok-extend_from_slice.ensures.items ∙ rw (c.in_ok-put_half.ensures, c.in_ok-put_long-2.ensures, c.in_ok-put_long.ensures, c.in_ok-put_word.ensures) (simp append_assoc)
