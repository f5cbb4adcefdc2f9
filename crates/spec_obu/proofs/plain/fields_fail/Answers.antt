use Rattle.std.proofs.lemmas.Bool.{eq-eqb, ne_eqb}
use Rattle.spec_obu.proofs.PlainLaws.{suffix}
use Rattle.spec_obu.proofs.PlainTests.{fields_extended, fields_plain}
use Rattle.spec_obu.proofs.plain.fields_fail.Goals as goal

pub returns-then-first-eq1 : goal.returns-then-first-eq1
returns-then-first-eq1 c =
    let rest = suffix c.in-Some.length c.args.bytes.now in
    fields_extended _ _ _ _ (eq-eqb _ _ c.if-first-eq1.true) c.in-Some.ensures.trims (rw rest at c.extension_fails.ensures)

pub returns-else-first-eq1 : goal.returns-else-first-eq1
returns-else-first-eq1 c = fields_plain _ _ _ (ne_eqb _ _ c.if-first-eq1.false) c.in-Some.ensures.trims
