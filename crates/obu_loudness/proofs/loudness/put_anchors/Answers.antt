use Rattle.std.proofs.Common.{◌≡◌, ℕ, true, refl}
use Rattle.spec_bits.specs.Form.{Number, canonical}
use Rattle.spec_descriptors.specs.MixPresentation.{has_bit}
use Rattle.spec_descriptors.specs.MixFields.{anchor_fields}
use Rattle.obu_loudness.specs.LoudnessView.{view_anchor}
use Rattle.spec_syntax.proofs.Writing.{put_counted}
use Rattle.obu_loudness.proofs.loudness.put_anchors.Goals as goal

pub returns-in_ok-put_all_anchors : goal.returns-in_ok-put_all_anchors
returns-in_ok-put_all_anchors c =
    let there : has_bit 1 c.args.layout.now.info ≡ true = rw c.if-layout-eq1.true refl in
    rw there (
      put_counted anchor_fields view_anchor c.args.layout.now.anchors.items (λ (n : ℕ). canonical (Number 8) n) _ _ _ (rw c.len.ensures.value at c.in_ok-put_bits.ensures.bits) (rw c.as_slice.ensures at c.in_ok-put_all_anchors.ensures.0),
      c.in_ok-put_all_anchors.ensures.1,
    )
