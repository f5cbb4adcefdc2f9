use Rattle.std.proofs.Common.{arith, ◌≡◌, ◌-◌, length, sym, ap, ◌∙◌, take, drop, length-drop}
use Rattle.std.specs.List.{list_any}
use Rattle.std.proofs.lemmas.List.{drop-map, take_all}
use Rattle.spec_descriptors.specs.Layers.{LayerFields}
use Rattle.obu_element_config.specs.declared.layer.Layer.{Layer}
use Rattle.obu_element_config.specs.LayerView.{view_layer}
use Rattle.iamf_elements.proofs.Walks.{list_any-map}
use Rattle.iamf_elements.proofs.layers.has_recon.Goals as goal

pub returns-then-not-is_empty : goal.returns-then-not-is_empty
returns-then-not-is_empty c =
    let layers = c.args.layers.now in
    let whole : take (length layers - 1) (drop 1 layers) ≡ drop 1 layers = take_all (length layers - 1) (drop 1 layers) (omega (arith, length-drop 1 layers)) in
    c.some_recon.ensures
    ∙ ap (list_any (λ (layer : Layer). layer.recon)) whole
    ∙ sym (list_any-map (λ (layer : LayerFields). layer.recon_gain_is_present) view_layer (drop 1 layers))
    ∙ ap (list_any (λ (layer : LayerFields). layer.recon_gain_is_present)) (sym (drop-map view_layer 1 layers))
