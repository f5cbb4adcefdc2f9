use Rattle.std.proofs.Common.{◌≡◌, ◌++◌, take, map}
use Rattle.spec_syntax.specs.Payload.{canon}
use Rattle.spec_syntax.specs.Repetition.{joined}
use Rattle.spec_descriptors.specs.ElementFields.{layer_fields}
use Rattle.obu_element_config.specs.LayerView.{view_layer}
use Rattle.obu_element_config.proofs.layer.put_each.Given as goal

abbrev pub invariant-loop-layer : goal.invariant-loop-layer
invariant-loop-layer l = (l.out.used ≡ 0) × (l.out.bits ≡ l.fn.out.bits ++ canon (joined layer_fields (map view_layer (take l.layer-index l.layers))))
