use Rattle.spec_files.proofs.FileLaw as law
use Rattle.spec_files.proofs.file_holds.Goals as goal

pub returns : goal.returns
returns c = record { holds = law.file_holds; only = law.holds_only; few = law.units_few }
