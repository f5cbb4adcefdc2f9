use Rattle.spec_play.proofs.PlayedFiles.{fixed_wave_plays}
use Rattle.spec_play.proofs.laws.the_fixed_wave_plays.Goals as goal

pub returns : goal.returns
returns c = fixed_wave_plays
