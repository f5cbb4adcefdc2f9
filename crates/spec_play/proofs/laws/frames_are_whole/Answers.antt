use Rattle.spec_play.proofs.WholeFrames.{frames_whole, one_config}
use Rattle.spec_play.proofs.laws.frames_are_whole.Goals as goal

pub returns-clause-whole : goal.returns-clause-whole
returns-clause-whole c = frames_whole

pub returns-clause-codec : goal.returns-clause-codec
returns-clause-codec c = one_config
