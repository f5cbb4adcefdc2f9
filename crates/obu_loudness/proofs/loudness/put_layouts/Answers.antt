use Rattle.std.proofs.Common.{ℕ}
use Rattle.spec_bits.specs.Form.{Leb128, canonical}
use Rattle.spec_descriptors.specs.MixFields.{loudness_fields}
use Rattle.obu_loudness.specs.LoudnessView.{view_loudness}
use Rattle.spec_syntax.proofs.Writing.{put_counted}
use Rattle.obu_loudness.proofs.loudness.put_layouts.Goals as goal

pub returns : goal.returns
returns c = (put_counted loudness_fields view_loudness c.args.layouts.now (λ (n : ℕ). canonical Leb128 n) _ _ _ c.in_ok-put_leb.ensures.bits c.in_ok-put_all_layouts.ensures.0, c.in_ok-put_all_layouts.ensures.1)
