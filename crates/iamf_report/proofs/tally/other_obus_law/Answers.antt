use Rattle.iamf_report.proofs.OneMoreObu.{other_added}
use Rattle.iamf_report.proofs.tally.other_obus_law.Goals as goal

pub returns : goal.returns
returns c = λ t s o stands other. other_added t.lines s o stands other
