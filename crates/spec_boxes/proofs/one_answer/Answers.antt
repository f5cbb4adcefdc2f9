use Rattle.spec_boxes.proofs.Answer as law
use Rattle.spec_boxes.proofs.RuledTrack.{track_is}
use Rattle.spec_boxes.proofs.one_answer.Goals as goal

pub returns : goal.returns
returns c = record { one = law.one_answer; read = track_is }
