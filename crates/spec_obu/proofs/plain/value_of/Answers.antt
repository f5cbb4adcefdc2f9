use Rattle.std.proofs.Common.{arith}
use Rattle.spec_obu.proofs.PlainLaws.{last_small, last_within}
use Rattle.spec_obu.proofs.plain.value_of.Goals as goal

pub overflow_mul-value : goal.overflow_mul-value
overflow_mul-value c = let s = last_small _ _ c.loop-i-test.true c.requires in omega (arith, s, c.loop-i.invariant)

pub overflow_add-value : goal.overflow_add-value
overflow_add-value c = let s = last_small _ _ c.loop-i-test.true c.requires in omega (arith, s, c.loop-i.invariant, c.from.ensures)

pub returns-clause-small : goal.returns-clause-small
returns-clause-small c = let s = last_within c.args.bytes.now c.loop-i.i c.requires in omega (arith, s, c.loop-i.invariant)
