use Rattle.std.proofs.Common.{◌≡◌, ◌*◌, ◌≤◌, take, map}
use Rattle.spec_descriptors.specs.Layers.{substreams_of}
use Rattle.obu_element_config.specs.LayerView.{view_layer}
use Rattle.obu_element_config.proofs.config.substreams_of.Given as goal

abbrev pub invariant-loop-layer : goal.invariant-loop-layer
invariant-loop-layer l = (l.sum ≡ substreams_of (map view_layer (take l.layer-index l.layers))) × (l.sum ≤ 255 * l.layer-index)
