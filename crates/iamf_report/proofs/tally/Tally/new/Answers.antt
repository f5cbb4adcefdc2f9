use Rattle.iamf_report.proofs.OneMoreObu.{no_lines}
use Rattle.iamf_report.proofs.tally.Tally.new.Goals as goal

pub returns : goal.returns
returns c = no_lines _ _ c.new.ensures.items c.new-2.ensures.items
