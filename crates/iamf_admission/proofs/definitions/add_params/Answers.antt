use Rattle.std.proofs.Common.{map, subst, sym}
use Rattle.spec_sequence.specs.ValueRole.{element_definition}
use Rattle.obu_element_config.specs.LayerView.{view_layer}
use Rattle.obu_descriptors.specs.ParameterView.{view_param}
use Rattle.obu_descriptors.specs.declared.parameter.Param.{Param}
use Rattle.iamf_admission.specs.Defining.{CanDefine}
use Rattle.iamf_admission.proofs.Defining.{adds_none, adds_more}
use Rattle.iamf_admission.proofs.definitions.add_params.Goals as goal

pub add_param-requires : goal.add_param-requires
add_param-requires c =
    subst (λ (p : Param). CanDefine (map view_layer c.args.layers.now) (view_param p)) (sym c.param-item.is) (c.requires c.loop-param.param-index c.param-item.result c.loop-param-test.true)

pub loop-param-init : goal.loop-param-init
loop-param-init c = adds_none c.args.definitions.now.items

pub loop-param-preserved : goal.loop-param-preserved
loop-param-preserved c =
    adds_more (λ p. element_definition (map view_layer c.args.layers.now) (view_param p)) c.args.params.now c.loop-param.param-index c.param-item.result _ _ _ c.loop-param-test.true c.param-item.is c.loop-param.invariant (c.in_ok-add_param.ensures {u = tt})
