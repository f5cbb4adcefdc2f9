use Rattle.iamf_report.proofs.OneMoreObu.{element_added}
use Rattle.iamf_report.proofs.tally.Tally.add_element.Goals as goal

pub returns-clause-adds : goal.returns-clause-adds
returns-clause-adds c = λ s o stands says fine. element_added c.args.self.now.lines c.push.new.self c.element_line.result _ s o c.in_ok-push.ensures.items c.element_line.ensures stands says fine
