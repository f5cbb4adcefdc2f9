use Rattle.std.proofs.Common.{◌≡◌, ◌++◌, sym, subst}
use Rattle.spec_bits.specs.Bits.{Bits, all_bits}
use Rattle.spec_syntax.specs.Payload.{Payload, canon}
use Rattle.spec_descriptors.specs.MixPresentation.{mix_presentation}
use Rattle.spec_descriptors.specs.MixFields.{mix_presentation_fields}
use Rattle.spec_descriptors.proofs.MixSteps.{mix_presentation_syntax}
use Rattle.spec_syntax.proofs.Fitting.{stands_fit}
use Rattle.obu_mix.specs.MixView.{view_mix, tail_of}
use Rattle.obu_mix.proofs.WrittenMix.{mix_is}
use Rattle.obu_mix.proofs.mix_presentation.MixPresentation.write.Goals as goal

pub put_fields-requires-clause-fits : goal.put_fields-requires-clause-fits
put_fields-requires-clause-fits c = stands_fit mix_presentation _ _ _ _ c.requires.fields

pub returns-clause-canonical : goal.returns-clause-canonical
returns-clause-canonical c =
    mix_is c.args.self.now _ _ _ _ _ c.new-out.ensures.bits c.in_ok-put_fields.ensures.0 c.in_ok-put_tag_list.ensures.bits c.in_ok-put_bytes.ensures.bits c.finish.ensures

pub returns-clause-read_again : goal.returns-clause-read_again
returns-clause-read_again c =
    let written : all_bits c.finish.result.items ≡ canon (mix_presentation_fields (view_mix c.args.self.now)) ++ all_bits (tail_of c.args.self.now) =
    mix_is c.args.self.now _ _ _ _ _ c.new-out.ensures.bits c.in_ok-put_fields.ensures.0 c.in_ok-put_tag_list.ensures.bits c.in_ok-put_bytes.ensures.bits c.finish.ensures in
    subst (λ (b : Bits). Payload mix_presentation (mix_presentation_fields (view_mix c.args.self.now)) (view_mix c.args.self.now) (all_bits (tail_of c.args.self.now)) b) (sym written)
    (mix_presentation_syntax.back (view_mix c.args.self.now) (all_bits (tail_of c.args.self.now)) c.requires.fields)
