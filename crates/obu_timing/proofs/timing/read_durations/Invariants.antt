use Rattle.std.proofs.Common.{◌≡◌, [], ◌-◌}
use Rattle.spec_bits.specs.Cursor.{IsOnByte}
use Rattle.spec_syntax.specs.Syntax.{each}
use Rattle.spec_syntax.specs.Reading.{read}
use Rattle.spec_descriptors.specs.declared.fault.DescriptorFault.TheVariants as fault
use Rattle.spec_descriptors.specs.ParameterDefinition.{any_duration}
use Rattle.obu_timing.proofs.timing.read_durations.Given as goal

abbrev pub invariant-loop : goal.invariant-loop
invariant-loop l =
    IsOnByte l.view
    × (read (λ f. fault.Field f) (each (l.count - l.counter) any_duration l.durations.items) l.view ≡ read (λ f. fault.Field f) (each l.count any_duration []) l.initial.view)
