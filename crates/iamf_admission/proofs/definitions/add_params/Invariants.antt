use Rattle.std.proofs.Common.{take, map}
use Rattle.std.specs.List.{flat_map}
use Rattle.spec_sequence.specs.ValueRole.{element_definition}
use Rattle.obu_element_config.specs.LayerView.{view_layer}
use Rattle.obu_descriptors.specs.ParameterView.{view_param}
use Rattle.iamf_admission.specs.Defining.{Defines}
use Rattle.iamf_admission.proofs.definitions.add_params.Given as goal

abbrev pub invariant-loop-param : goal.invariant-loop-param
invariant-loop-param l = Defines l.fn.definitions.items l.definitions.items (flat_map (λ p. element_definition (map view_layer l.layers) (view_param p)) (take l.param-index l.params))
