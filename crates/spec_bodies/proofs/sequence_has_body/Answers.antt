use Rattle.spec_bodies.proofs.Sequences as law
use Rattle.spec_bodies.proofs.sequence_has_body.Goals as goal

pub returns : goal.returns
returns c = record { read = law.read_is_sequence; reads = law.sequence_reads; one = law.one_sequence; one_body = law.one_sequence_body }
