use Rattle.std.proofs.Common.{append_assoc, ◌∙◌}
use Rattle.spec_files.specs.MovieFile.{edts_body, elst_body}
use Rattle.mp4_file.proofs.track_header.put_edit_boxes.Goals as goal

pub returns : goal.returns
unfolding edts_body elst_body
returns c = c.in_ok-put_edit.ensures ∙ rw (c.in_ok-put_full.ensures, c.in_ok-put_head.ensures) (simp append_assoc)
