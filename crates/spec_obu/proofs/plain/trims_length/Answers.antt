use Rattle.spec_obu.proofs.PlainLaws.{suffix}
use Rattle.spec_obu.proofs.PlainTests.{trims_some}
use Rattle.spec_obu.proofs.plain.trims_length.Goals as goal

pub returns-clause-trims : goal.returns-clause-trims
returns-clause-trims c =
    let rest = suffix c.in_ok-end_length.end_length c.args.bytes.now in
    trims_some _ _ _ _ _ _ c.if-not-trimmed.false c.in_ok-end_length.ensures.number (rw rest at c.in_ok-start_length.ensures.number)
