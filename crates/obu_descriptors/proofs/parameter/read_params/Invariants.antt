use Rattle.std.proofs.Common.{◌≡◌, [], ◌-◌, map}
use Rattle.spec_bits.specs.Cursor.{IsOnByte}
use Rattle.spec_syntax.specs.Syntax.{each}
use Rattle.spec_syntax.specs.Reading.{read}
use Rattle.spec_descriptors.specs.declared.fault.DescriptorFault.TheVariants as fault
use Rattle.spec_descriptors.specs.AudioElement.{parameter_in}
use Rattle.obu_descriptors.specs.ParameterView.{view_param}
use Rattle.obu_descriptors.proofs.parameter.read_params.Given as goal

abbrev pub invariant-loop-i : goal.invariant-loop-i
invariant-loop-i l =
    IsOnByte l.view
    × (read (λ f. fault.Field f) (each (l.count - l.i) (parameter_in l.frame_length l.element_type) (map view_param l.params.items)) l.view ≡ read (λ f. fault.Field f) (each l.count (parameter_in l.frame_length l.element_type) []) l.initial.view)
