use Rattle.spec_descriptors.specs.MixFields.{loudness_fields}
use Rattle.obu_loudness.specs.LoudnessView.{view_loudness}
use Rattle.spec_syntax.proofs.Writing.{put_item}
use Rattle.spec_syntax.proofs.Fitting.{fit_item}
use Rattle.obu_loudness.proofs.loudness.put_all_layouts.Goals as goal

pub put_layout-requires-clause-fits : goal.put_layout-requires-clause-fits
put_layout-requires-clause-fits c =
    fit_item (λ y. loudness_fields (view_loudness y)) c.args.layouts.now c.loop-layout.layout-index c.layout-item.result c.loop-layout-test.true c.layout-item.is c.requires.fits

pub loop-layout-preserved : goal.loop-layout-preserved
loop-layout-preserved c = (
  c.in_ok-put_layout.ensures.1,
  put_item (λ y. loudness_fields (view_loudness y)) c.args.layouts.now c.loop-layout.layout-index c.layout-item.result _ _ _ c.loop-layout-test.true c.layout-item.is c.loop-layout.invariant.1 c.in_ok-put_layout.ensures.0,
)
