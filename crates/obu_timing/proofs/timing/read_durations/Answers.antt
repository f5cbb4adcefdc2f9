use Rattle.std.proofs.Common.{refl}
use Rattle.spec_syntax.proofs.Reading.{each_goes_on, each_done}
use Rattle.spec_descriptors.specs.ParameterDefinition.{any_duration}
use Rattle.obu_timing.proofs.timing.read_durations.Goals as goal

pub loop-preserved : goal.loop-preserved
loop-preserved c = (
  c.in_ok-duration.ensures.on_byte,
  rw c.in_ok-push.ensures.ok (each_goes_on _ any_duration _ _ _ _ _ _ _ c.loop-test.true (rw c.in_ok-duration.ensures.takes refl) c.loop.invariant.1),
)

pub returns : goal.returns
returns c = (each_done _ any_duration _ _ _ _ _ c.loop-test.false c.loop.invariant.1, c.loop.invariant.0)
