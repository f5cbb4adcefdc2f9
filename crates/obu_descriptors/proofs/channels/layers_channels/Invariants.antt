use Rattle.std.proofs.Common.{◌≡◌, ◌+◌, ◌*◌, ◌≤◌, take, map}
use Rattle.std.specs.Prelude.{sum_by}
use Rattle.obu_element_config.specs.LayerView.{view_layer}
use Rattle.obu_descriptors.proofs.channels.layers_channels.Given as goal

abbrev pub invariant-loop-layer : goal.invariant-loop-layer
invariant-loop-layer l =
    (l.sum ≡ sum_by (λ layer. layer.substream_count + layer.coupled_substream_count) (map view_layer (take l.layer-index l.layers)))
    × (l.sum ≤ 510 * l.layer-index)
