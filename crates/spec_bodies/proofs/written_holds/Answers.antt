use Rattle.spec_bodies.proofs.BodyLaws as law
use Rattle.spec_bodies.proofs.written_holds.Goals as goal

pub returns : goal.returns
returns c = record { holds = law.written_holds; one = law.one_file }
