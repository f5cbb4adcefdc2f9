use Rattle.std.proofs.Common.{arith}
use Rattle.iamf_sequence.proofs.Finishing.{sorts_more, rest_more}
use Rattle.iamf_sequence.proofs.decoding.sort_units.Goals as goal

pub loop-unit-preserved : goal.loop-unit-preserved
loop-unit-preserved c = record {
  done = sorts_more c.args.units.now c.loop-unit.units c.loop-unit.unit-index c.unit-item.result c.sort.new.self (omega (arith, c.loop-unit-test.true, c.loop-unit.auto.units)) c.in-Ok.ensures c.loop-unit.invariant.done c.loop-unit.invariant.rest;
  rest = rest_more c.args.units.now c.loop-unit.units c.loop-unit.unit-index c.sort.new.self c.loop-unit.invariant.rest;
}
