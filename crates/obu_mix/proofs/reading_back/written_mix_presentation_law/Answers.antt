use Rattle.obu_mix.proofs.Answering.{same_mix}
use Rattle.obu_mix.proofs.reading_back.written_mix_presentation_law.Goals as goal

pub returns : goal.returns
returns c = same_mix
