use Rattle.spec_bodies.proofs.BodyLaws as law
use Rattle.spec_bodies.proofs.rebuilt_reads.Goals as goal

pub returns : goal.returns
returns c = record { reads = law.rebuilt_reads; one = law.one_bare; keeps = law.file_keeps_body }
