use Rattle.spec_sequence.proofs.NarrowSequences.{narrow_same}
use Rattle.spec_sequence.proofs.laws.narrow_law.Goals as goal

pub returns : goal.returns
returns c = narrow_same
