use Rattle.iamf_report.proofs.OneMoreObu.{finished}
use Rattle.iamf_report.proofs.tally.Tally.finish.Goals as goal

pub returns : goal.returns
returns c = λ s stands units samples. finished c.args.self.lines c.args.units c.args.samples s stands units samples
