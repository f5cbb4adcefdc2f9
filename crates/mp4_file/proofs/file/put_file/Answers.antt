use Rattle.std.proofs.Common.{◌∙◌}
use Rattle.mp4_file.proofs.file.put_file.Goals as goal

pub returns : goal.returns
returns c = c.in_ok-put_pieces.ensures ∙ rw c.in_ok-out.ensures.items at c.in_ok-put_front.ensures
