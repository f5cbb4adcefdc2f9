use Rattle.spec_descriptors.specs.MixFields.{mix_element_fields}
use Rattle.obu_mix_elements.specs.MixElementView.{view_mix_element}
use Rattle.spec_syntax.proofs.Writing.{put_item}
use Rattle.spec_syntax.proofs.Fitting.{fit_item}
use Rattle.obu_mix_elements.proofs.mix_element.put_all_elements.Goals as goal

pub put_element-requires-clause-fits : goal.put_element-requires-clause-fits
put_element-requires-clause-fits c =
    fit_item (λ e. mix_element_fields (view_mix_element e)) c.args.elements.now c.loop-element.element-index c.element-item.result c.loop-element-test.true c.element-item.is c.requires.fits

pub loop-element-preserved : goal.loop-element-preserved
loop-element-preserved c = (
  c.in_ok-put_element.ensures.1,
  put_item (λ e. mix_element_fields (view_mix_element e)) c.args.elements.now c.loop-element.element-index c.element-item.result _ _ _ c.loop-element-test.true c.element-item.is c.loop-element.invariant.1 c.in_ok-put_element.ensures.0,
)
