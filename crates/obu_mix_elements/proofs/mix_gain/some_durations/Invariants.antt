use Rattle.std.proofs.Common.{◌≡◌, [], ◌-◌, length}
use Rattle.spec_bits.specs.Cursor.{IsOnByte}
use Rattle.spec_syntax.specs.Syntax.{each}
use Rattle.spec_syntax.specs.Reading.{read}
use Rattle.spec_descriptors.specs.declared.fault.MixFault.TheVariants as fault
use Rattle.spec_descriptors.specs.MixGain.{some_duration}
use Rattle.obu_mix_elements.proofs.mix_gain.some_durations.Given as goal

abbrev pub invariant-loop : goal.invariant-loop
invariant-loop l =
    IsOnByte l.view
    × (length l.durations.items ≡ l.counter)
    × (read (λ f. fault.Field f) (each (l.count - l.counter) some_duration l.durations.items) l.view ≡ read (λ f. fault.Field f) (each l.count some_duration []) l.initial.view)
