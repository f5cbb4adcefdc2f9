use Rattle.spec_sequence.proofs.Encoded.{encoded_reads, encoded_same}
use Rattle.spec_sequence.proofs.laws.encoded_law.Goals as goal

pub returns-clause-reads : goal.returns-clause-reads
returns-clause-reads c = encoded_reads

pub returns-clause-same : goal.returns-clause-same
returns-clause-same c = encoded_same
