use Rattle.std.proofs.Common.{refl}
use Rattle.spec_descriptors.specs.MixPresentation.{mix_presentation}
use Rattle.spec_syntax.proofs.Fitting.{stands_fit}
use Rattle.obu_mix.proofs.mix_presentation.MixPresentation.write_fields.Goals as goal

pub put_fields-requires-clause-fits : goal.put_fields-requires-clause-fits
put_fields-requires-clause-fits c = stands_fit mix_presentation _ _ _ _ c.requires.fields

pub returns : goal.returns
returns c = rw (c.finish.ensures, c.in_ok-put_tag_list.ensures.bits, c.in_ok-put_fields.ensures.0, c.new-out.ensures.bits) refl
