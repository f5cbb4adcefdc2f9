use Rattle.spec_boxes.proofs.ChunkLaws as law
use Rattle.spec_boxes.proofs.samples_lie.Goals as goal

pub returns : goal.returns
returns c = record { samples = law.samples_lie; chunks = law.chunks_count }
