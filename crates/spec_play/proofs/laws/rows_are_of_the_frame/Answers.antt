use Rattle.spec_play.proofs.FrameRows.{rows_are_of_frame}
use Rattle.spec_play.proofs.laws.rows_are_of_the_frame.Goals as goal

pub returns : goal.returns
returns c = rows_are_of_frame
