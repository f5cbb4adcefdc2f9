use Rattle.std.proofs.Common.{◌≡◌, false, take}
use Rattle.std.specs.List.{list_any, flat_map}
use Rattle.obu_descriptors.specs.ParameterView.{view_param}
use Rattle.spec_play.specs.DemixingOverTime.{demixing_in}
use Rattle.spec_play.specs.Selection.{has_reserved}
use Rattle.iamf_select.specs.CandidateView.{heard}
use Rattle.iamf_select.proofs.asking.any_reserved.Given as goal

abbrev pub invariant-loop-param : goal.invariant-loop-param
invariant-loop-param l = list_any (has_reserved (heard l.candidate).units) (flat_map (λ p. demixing_in (view_param p)) (take l.param-index l.param-items)) ≡ false
