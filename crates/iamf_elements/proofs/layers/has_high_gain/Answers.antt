use Rattle.std.proofs.Common.{◌∙◌, sym}
use Rattle.obu_element_config.specs.LayerView.{view_layer}
use Rattle.spec_play.specs.Selection.{is_output_gain_above}
use Rattle.spec_descriptors.specs.Layers.{LayerFields}
use Rattle.iamf_elements.proofs.Walks.{list_any-map}
use Rattle.iamf_elements.proofs.layers.has_high_gain.Goals as goal

pub returns : goal.returns
returns c = c.some_high.ensures ∙ sym (list_any-map (λ (layer : LayerFields). is_output_gain_above layer.gain) view_layer c.args.layers.now)
