use Rattle.std.proofs.Common.{pos}
use Rattle.spec_descriptors.specs.MixFields.{anchor_fields}
use Rattle.obu_loudness.specs.LoudnessView.{view_anchor}
use Rattle.spec_syntax.proofs.Writing.{put_more}
use Rattle.obu_loudness.proofs.loudness.put_all_anchors.Goals as goal

pub loop-anchor-preserved : goal.loop-anchor-preserved
loop-anchor-preserved c = (
  c.in_ok-put_anchor.ensures.1,
  put_more (λ a. anchor_fields (view_anchor a)) c.args.anchors.now c.loop-anchor.anchor-index (record { kind = 0; loudness = pos 0 }) _ _ _ c.loop-anchor-test.true c.loop-anchor.invariant.1 c.in_ok-put_anchor.ensures.0,
)
