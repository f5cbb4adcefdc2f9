use Rattle.spec_syntax.proofs.Reading.{each_goes_on, each_done}
use Rattle.std.proofs.lemmas.List.{map_push}
use Rattle.obu_descriptors.proofs.parameter.read_params.Goals as goal

pub loop-i-preserved : goal.loop-i-preserved
loop-i-preserved c = (
  c.in_ok-param.ensures.1,
  rw (c.in_ok-push.ensures.ok, map_push) (each_goes_on _ _ _ _ _ _ _ _ _ c.loop-i-test.true (rw c.as_slice.ensures at c.in_ok-param.ensures.0) c.loop-i.invariant.1),
)

pub returns : goal.returns
returns c = (each_done _ _ _ _ _ _ _ c.loop-i-test.false c.loop-i.invariant.1, c.loop-i.invariant.0)
