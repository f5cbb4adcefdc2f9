use Rattle.spec_obu.proofs.PlainTests.{extension_some}
use Rattle.spec_obu.proofs.plain.extension_fails.Goals as goal

pub returns-in-Some : goal.returns-in-Some
returns-in-Some c = extension_some _ _ _ c.in-Some.ensures.number
