use Rattle.spec_files.proofs.Bodies as law
use Rattle.spec_files.proofs.rebuilt_keeps.Goals as goal

pub returns : goal.returns
returns c = record { body = law.rebuilt_has_body; one = law.one_body }
