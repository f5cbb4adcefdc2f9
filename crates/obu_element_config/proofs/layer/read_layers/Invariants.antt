use Rattle.std.proofs.Common.{◌≡◌, [], ◌-◌, length, map}
use Rattle.spec_bits.specs.Cursor.{IsOnByte}
use Rattle.spec_syntax.specs.Syntax.{each}
use Rattle.spec_syntax.specs.Reading.{read}
use Rattle.spec_descriptors.specs.declared.fault.DescriptorFault.TheVariants as fault
use Rattle.spec_descriptors.specs.Layers.{last_layout, layer_in}
use Rattle.obu_element_config.specs.LayerView.{view_layer}
use Rattle.obu_element_config.proofs.layer.read_layers.Given as goal

abbrev pub invariant-loop-i : goal.invariant-loop-i
invariant-loop-i l =
    IsOnByte l.view
    × (l.before ≡ last_layout (map view_layer l.layers.items))
    × (length l.layers.items ≡ l.i)
    × (read (λ f. fault.Field f) (each (l.count - l.i) layer_in (map view_layer l.layers.items)) l.view ≡ read (λ f. fault.Field f) (each l.count layer_in []) l.initial.view)
