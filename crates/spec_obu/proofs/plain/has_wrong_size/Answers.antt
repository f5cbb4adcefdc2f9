use Rattle.spec_obu.proofs.PlainTests.{size_fails_some, size_fails_none}
use Rattle.spec_obu.proofs.plain.has_wrong_size.Goals as goal

pub returns-in-Some : goal.returns-in-Some
returns-in-Some c = size_fails_some _ _ _ c.in-Some.ensures.field

pub returns-in-None : goal.returns-in-None
returns-in-None c = size_fails_none _ c.in-None.ensures.field
