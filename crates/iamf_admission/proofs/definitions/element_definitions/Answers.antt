use Rattle.std.proofs.Common.{List, [], length, subst, sym}
use Rattle.std.proofs.lemmas.List.Folds.{flat_map-map}
use Rattle.spec_blocks.specs.Shape.{Definition}
use Rattle.spec_sequence.specs.ValueRole.{layers_of, element_definition}
use Rattle.obu_descriptors.specs.ParameterView.{view_param}
use Rattle.obu_element_config.specs.ConfigView.{view_config}
use Rattle.iamf_admission.specs.Defining.{Defines}
use Rattle.iamf_admission.proofs.Definable.{definable}
use Rattle.iamf_admission.proofs.definitions.element_definitions.Goals as goal

pub add_params-requires : goal.add_params-requires
add_params-requires c =
    rw (c.as_slice.ensures, c.layers_of-layers.ensures (length c.args.element.now.substreams.items)) (definable c.requires.0 c.args.element.now c.requires.1 c.requires.2)

pub returns : goal.returns
returns c =
    let e = c.args.element.now in
    let layers = c.layers_of-layers.ensures (length e.substreams.items) in
    subst (λ (ds : List Definition). Defines [] c.add_params.new.definitions.items ds)
    (sym (flat_map-map (element_definition (layers_of (view_config (length e.substreams.items) e.config))) view_param e.params.items))
    (rw (c.as_slice.ensures, layers, c.new-definitions.ensures.items) at (c.in_ok-add_params.ensures {u = tt}))
