use Rattle.std.proofs.Common.{◌≡◌, [], take}
use Rattle.std.specs.List.{flat_map}
use Rattle.obu_descriptors.specs.ParameterView.{view_param}
use Rattle.spec_play.specs.DemixingOverTime.{demixing_in}
use Rattle.iamf_elements.proofs.demixing.demixing_of.Given as goal

abbrev pub invariant-loop-param : goal.invariant-loop-param
invariant-loop-param l = flat_map (λ p. demixing_in (view_param p)) (take l.param-index l.param-items) ≡ []
