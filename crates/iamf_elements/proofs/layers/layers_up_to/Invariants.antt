use Rattle.std.proofs.Common.{◌≡◌, ◌<◌, ℕ, false, get_or}
use Rattle.obu_element_config.specs.LayerView.{view_layer}
use Rattle.spec_play.specs.UsedLayers.{is_of}
use Rattle.demix_channels.proofs.SeenLayers.{no_layer}
use Rattle.iamf_elements.proofs.layers.layers_up_to.Given as goal

abbrev pub invariant-loop-i : goal.invariant-loop-i
invariant-loop-i l = (k : ℕ) → k < l.i → is_of l.layout (view_layer (get_or l.layers k no_layer)) ≡ false
