use Rattle.std.proofs.Common.{◌≡◌, ◌++◌, take}
use Rattle.spec_syntax.specs.Payload.{canon}
use Rattle.spec_syntax.specs.Repetition.{joined}
use Rattle.spec_descriptors.specs.MixFields.{anchor_fields}
use Rattle.obu_loudness.specs.LoudnessView.{view_anchor}
use Rattle.obu_loudness.proofs.loudness.put_all_anchors.Given as goal

abbrev pub invariant-loop-anchor : goal.invariant-loop-anchor
invariant-loop-anchor l = (l.out.used ≡ 0) × (l.out.bits ≡ l.fn.out.bits ++ canon (joined (λ a. anchor_fields (view_anchor a)) (take l.anchor-index l.anchors)))
