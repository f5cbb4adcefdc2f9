use Rattle.spec_descriptors.specs.MixFields.{sub_mix_fields}
use Rattle.obu_mix.specs.SubMixView.{view_sub_mix}
use Rattle.spec_syntax.proofs.Writing.{put_item}
use Rattle.spec_syntax.proofs.Fitting.{fit_item}
use Rattle.obu_mix.proofs.sub_mix.put_all_sub_mixes.Goals as goal

pub put_sub_mix-requires-clause-fits : goal.put_sub_mix-requires-clause-fits
put_sub_mix-requires-clause-fits c =
    fit_item (λ s. sub_mix_fields (view_sub_mix s)) c.args.sub_mixes.now c.loop-sub_mix.sub_mix-index c.sub_mix-item.result c.loop-sub_mix-test.true c.sub_mix-item.is c.requires.fits

pub loop-sub_mix-preserved : goal.loop-sub_mix-preserved
loop-sub_mix-preserved c = (
  c.in_ok-put_sub_mix.ensures.1,
  put_item (λ s. sub_mix_fields (view_sub_mix s)) c.args.sub_mixes.now c.loop-sub_mix.sub_mix-index c.sub_mix-item.result _ _ _ c.loop-sub_mix-test.true c.sub_mix-item.is c.loop-sub_mix.invariant.1 c.in_ok-put_sub_mix.ensures.0,
)
