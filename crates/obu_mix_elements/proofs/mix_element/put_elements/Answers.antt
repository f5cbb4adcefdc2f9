use Rattle.std.proofs.Common.{ℕ}
use Rattle.spec_bits.specs.Form.{Leb128, canonical}
use Rattle.spec_descriptors.specs.MixFields.{mix_element_fields}
use Rattle.obu_mix_elements.specs.MixElementView.{view_mix_element}
use Rattle.spec_syntax.proofs.Writing.{put_counted}
use Rattle.obu_mix_elements.proofs.mix_element.put_elements.Goals as goal

pub returns : goal.returns
returns c = (put_counted mix_element_fields view_mix_element c.args.elements.now (λ (n : ℕ). canonical Leb128 n) _ _ _ c.in_ok-put_leb.ensures.bits c.in_ok-put_all_elements.ensures.0, c.in_ok-put_all_elements.ensures.1)
