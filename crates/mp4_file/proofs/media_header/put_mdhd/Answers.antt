use Rattle.std.proofs.Common.{append_assoc, ◌∙◌}
use Rattle.spec_files.specs.MovieFile.{mdhd_body}
use Rattle.mp4_file.proofs.media_header.put_mdhd.Goals as goal

pub returns : goal.returns
unfolding mdhd_body
returns c = c.in_ok-extend_from_slice-2.ensures.items ∙ rw (c.in_ok-put_half.ensures, c.in_ok-put_long.ensures, c.in_ok-put_word.ensures, c.in_ok-extend_from_slice.ensures.items, c.in_ok-put_full.ensures, c.all_samples.ensures) (simp append_assoc)
