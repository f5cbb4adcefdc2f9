use Rattle.spec_obu.proofs.PlainTests.{too_long_some, too_long_none}
use Rattle.spec_obu.proofs.plain.is_too_long.Goals as goal

pub returns-in-Some : goal.returns-in-Some
returns-in-Some c = too_long_some _ _ _ c.in-Some.ensures.field

pub returns-in-None : goal.returns-in-None
returns-in-None c = too_long_none _ c.in-None.ensures.field
