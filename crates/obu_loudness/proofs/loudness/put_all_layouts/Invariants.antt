use Rattle.std.proofs.Common.{◌≡◌, ◌++◌, take}
use Rattle.spec_syntax.specs.Payload.{canon}
use Rattle.spec_syntax.specs.Repetition.{joined}
use Rattle.spec_descriptors.specs.MixFields.{loudness_fields}
use Rattle.obu_loudness.specs.LoudnessView.{view_loudness}
use Rattle.obu_loudness.proofs.loudness.put_all_layouts.Given as goal

abbrev pub invariant-loop-layout : goal.invariant-loop-layout
invariant-loop-layout l = (l.out.used ≡ 0) × (l.out.bits ≡ l.fn.out.bits ++ canon (joined (λ y. loudness_fields (view_loudness y)) (take l.layout-index l.layouts)))
