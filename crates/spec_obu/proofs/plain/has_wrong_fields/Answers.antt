use Rattle.spec_obu.proofs.PlainLaws.{suffix}
use Rattle.spec_obu.proofs.PlainTests.{body_some, body_none}
use Rattle.spec_obu.proofs.plain.has_wrong_fields.Goals as goal

pub returns-in-Some : goal.returns-in-Some
returns-in-Some c =
    let rest = suffix c.in-Some.length c.args.after.now in
    body_some _ _ _ _ _ c.in-Some.ensures.field (rw (c.front.ensures, rest) at c.fields_fail.ensures)

pub returns-in-None : goal.returns-in-None
returns-in-None c = body_none _ _ c.in-None.ensures.field
