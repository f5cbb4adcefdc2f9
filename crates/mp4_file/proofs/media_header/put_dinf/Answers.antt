use Rattle.std.proofs.Common.{append_assoc, ◌∙◌}
use Rattle.spec_files.specs.MovieFile.{dinf_body}
use Rattle.mp4_file.proofs.media_header.put_dinf.Goals as goal

pub returns : goal.returns
unfolding dinf_body
returns c = c.in_ok-put_full-2.ensures ∙ rw (c.in_ok-put_word.ensures, c.in_ok-put_full.ensures, c.in_ok-put_head.ensures) (simp append_assoc)
