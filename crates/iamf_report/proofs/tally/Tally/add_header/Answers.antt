use Rattle.iamf_report.proofs.OneMoreObu.{header_added}
use Rattle.iamf_report.proofs.tally.Tally.add_header.Goals as goal

pub returns : goal.returns
returns c = λ s o stands says fine. header_added c.args.self.now.lines c.header_line.result _ s o c.header_line.ensures stands says fine
