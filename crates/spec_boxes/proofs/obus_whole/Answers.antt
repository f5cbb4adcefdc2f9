use Rattle.spec_boxes.proofs.WholeLaws as law
use Rattle.spec_boxes.proofs.obus_whole.Goals as goal

pub returns : goal.returns
returns c = record { whole = law.obus_whole; again = law.whole_are }
