use Rattle.std.proofs.Common.{ℕ}
use Rattle.spec_bits.specs.Form.{Leb128, canonical}
use Rattle.spec_descriptors.specs.MixFields.{sub_mix_fields}
use Rattle.obu_mix.specs.SubMixView.{view_sub_mix}
use Rattle.spec_syntax.proofs.Writing.{put_counted}
use Rattle.obu_mix.proofs.sub_mix.put_sub_mixes.Goals as goal

pub returns : goal.returns
returns c = (put_counted sub_mix_fields view_sub_mix c.args.sub_mixes.now (λ (n : ℕ). canonical Leb128 n) _ _ _ c.in_ok-put_leb.ensures.bits c.in_ok-put_all_sub_mixes.ensures.0, c.in_ok-put_all_sub_mixes.ensures.1)
