use Rattle.spec_descriptors.proofs.SequenceHeaderFields.{sequence_header_syntax}
use Rattle.spec_descriptors.proofs.laws.sequence_header_law.Goals as goal

pub returns : goal.returns
returns c = sequence_header_syntax
