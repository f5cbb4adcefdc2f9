use Rattle.spec_report.proofs.NarrowReports.{narrow_report_same}
use Rattle.spec_report.proofs.laws.report_law.Goals as goal

pub returns : goal.returns
returns c = narrow_report_same
