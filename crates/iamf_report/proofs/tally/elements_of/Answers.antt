use Rattle.spec_syntax.proofs.Fitting.{fit_item}
use Rattle.spec_descriptors.specs.MixFields.{sub_mix_fields}
use Rattle.obu_mix.specs.SubMixView.{view_sub_mix}
use Rattle.iamf_report.proofs.tally.elements_of.Goals as goal

pub count_of-count-requires : goal.count_of-count-requires
count_of-count-requires c =
    fit_item (λ s. sub_mix_fields (view_sub_mix s)) c.args.sub_mixes.now c.loop-sub_mix.sub_mix-index c.sub_mix-item.result c.loop-sub_mix-test.true c.sub_mix-item.is c.requires.fits
