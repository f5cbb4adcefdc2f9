use Rattle.spec_obu.proofs.PlainTests.{cut_some, cut_none}
use Rattle.spec_obu.proofs.plain.is_cut.Goals as goal

pub returns-in-Some : goal.returns-in-Some
returns-in-Some c = cut_some _ _ _ c.in-Some.ensures.field

pub returns-in-None : goal.returns-in-None
returns-in-None c = cut_none _ c.in-None.ensures.field
