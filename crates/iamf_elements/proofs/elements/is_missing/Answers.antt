use Rattle.std.proofs.Common.{◌∙◌, sym, ap, not}
use Rattle.obu_element_config.specs.LayerView.{view_layer}
use Rattle.spec_play.specs.UsedLayers.{is_of}
use Rattle.iamf_elements.proofs.Walks.{list_any-map}
use Rattle.iamf_elements.proofs.elements.is_missing.Goals as goal

pub returns : goal.returns
returns c = ap not (c.has_layer.ensures ∙ sym (list_any-map (is_of c.args.layout) view_layer c.args.layers.now))
