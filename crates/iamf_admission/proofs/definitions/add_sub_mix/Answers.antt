use Rattle.std.proofs.Common.{List, ◌∷◌, [], ◌++◌, subst}
use Rattle.std.specs.List.{flat_map}
use Rattle.spec_blocks.specs.Shape.{Definition}
use Rattle.spec_sequence.specs.ValueRole.{gain_definition}
use Rattle.obu_mix_elements.specs.MixGainView.{view_mix_gain}
use Rattle.obu_mix_elements.specs.MixElementView.{view_mix_element}
use Rattle.iamf_admission.specs.Defining.{Defines}
use Rattle.iamf_admission.proofs.Defining.{map-single, adds_both}
use Rattle.iamf_admission.proofs.definitions.add_sub_mix.Goals as goal

pub returns : goal.returns
returns c =
    let s = c.args.sub_mix.now in
    subst (λ (ds : List Definition). Defines c.args.definitions.now.items c.add_gain.new.definitions.items (ds ++ gain_definition (view_mix_gain s.output) ∷ [])) (map-single (λ e. gain_definition e.element_mix_gain) view_mix_element s.elements.items)
    (adds_both c.args.definitions.now.items c.add_gains.new.definitions.items c.add_gain.new.definitions.items
    (flat_map (λ e. gain_definition (view_mix_gain e.gain) ∷ []) s.elements.items) (gain_definition (view_mix_gain s.output) ∷ [])
    (rw c.as_slice.ensures at (c.in_ok-add_gains.ensures {u = tt})) (c.in_ok-add_gain.ensures {u = tt}))
