use Rattle.std.proofs.Common.{◌≡◌, drop, map}
use Rattle.std.specs.Prelude.{slice_get}
use Rattle.spec_descriptors.specs.AudioElement.{layer_channels}
use Rattle.obu_element_config.specs.LayerView.{view_layer}
use Rattle.obu_descriptors.specs.Channels.{AreCoupled}
use Rattle.obu_descriptors.proofs.channels.channels_in_layers.Given as goal

abbrev pub invariant-loop-layer : goal.invariant-loop-layer
invariant-loop-layer l =
    AreCoupled (map view_layer (drop l.layer-index l.layers))
    × (slice_get (layer_channels (map view_layer (drop l.layer-index l.layers))) l.left ≡ slice_get (layer_channels (map view_layer l.layers)) l.i)
