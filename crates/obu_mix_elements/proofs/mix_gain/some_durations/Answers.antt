use Rattle.std.proofs.Common.{arith}
use Rattle.spec_syntax.proofs.Reading.{each_goes_on, each_done}
use Rattle.spec_descriptors.specs.MixGain.{some_duration}
use Rattle.obu_mix_elements.proofs.mix_gain.some_durations.Goals as goal

pub loop-preserved : goal.loop-preserved
loop-preserved c = (
  c.in_ok-duration.ensures.on_byte,
  omega (arith, c.in_ok-push.ensures.len),
  rw c.in_ok-push.ensures.ok (each_goes_on _ some_duration _ _ _ _ _ _ _ c.loop-test.true (rw c.in_ok-duration.ensures.takes (grind arith)) c.loop.invariant.2),
)

pub returns-clause-reads : goal.returns-clause-reads
returns-clause-reads c = (each_done _ some_duration _ _ _ _ _ c.loop-test.false c.loop.invariant.2, c.loop.invariant.0)
