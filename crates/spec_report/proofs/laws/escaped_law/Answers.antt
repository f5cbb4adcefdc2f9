use Rattle.spec_report.proofs.Escapes.{escaped_plain, escaped_one}
use Rattle.spec_report.proofs.laws.escaped_law.Goals as goal

pub returns-clause-plain : goal.returns-clause-plain
returns-clause-plain c = escaped_plain

pub returns-clause-one : goal.returns-clause-one
returns-clause-one c = escaped_one
