use Rattle.spec_syntax.proofs.Reading.{each_goes_on, each_done}
use Rattle.spec_descriptors.specs.MixPresentation.{anchor_in, anchored_loudness}
use Rattle.std.proofs.lemmas.List.{map_push}
use Rattle.obu_loudness.proofs.loudness.all_anchors_of.Goals as goal

pub loop-preserved : goal.loop-preserved
loop-preserved c = (
  c.in-Ok.ensures.1,
  rw (c.in_ok-push.ensures.ok, map_push) (each_goes_on _ anchor_in _ _ _ _ _ _ _ c.loop-test.true c.in-Ok.ensures.0 c.loop.invariant.1),
)

pub returns : goal.returns
unfolding anchored_loudness
returns c = (rw c.in_ok-count.ensures.takes (each_done _ anchor_in _ _ _ _ _ c.loop-test.false c.loop.invariant.1), c.loop.invariant.0)
