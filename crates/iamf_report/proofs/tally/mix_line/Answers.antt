use Rattle.std.proofs.Common.{ap, map, sym}
use Rattle.obu_mix.specs.MixView.{view_mix}
use Rattle.obu_mix.specs.SubMixView.{view_sub_mix}
use Rattle.iamf_report.proofs.MixCounts.{few_sub_mixes, all_fit}
use Rattle.iamf_report.proofs.tally.mix_line.Goals as goal

pub elements_of-requires-clause-few : goal.elements_of-requires-clause-few
elements_of-requires-clause-few c = few_sub_mixes (view_mix c.args.mix.now) c.as_slice-sub_mixes.result.now (ap (map view_sub_mix) (sym c.as_slice-sub_mixes.ensures)) c.requires

pub elements_of-requires-clause-fits : goal.elements_of-requires-clause-fits
elements_of-requires-clause-fits c = all_fit (view_mix c.args.mix.now) c.as_slice-sub_mixes.result.now (ap (map view_sub_mix) (sym c.as_slice-sub_mixes.ensures)) c.requires
