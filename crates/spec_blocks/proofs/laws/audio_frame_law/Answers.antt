use Rattle.spec_blocks.proofs.BlockFields.{frame_syntax}
use Rattle.spec_blocks.proofs.laws.audio_frame_law.Goals as goal

pub returns : goal.returns
returns c = frame_syntax
