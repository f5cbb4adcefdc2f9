use Rattle.std.proofs.Common.{◌≡◌, [], ◌-◌, length}
use Rattle.spec_bits.specs.Cursor.{IsOnByte}
use Rattle.spec_syntax.specs.Syntax.{each}
use Rattle.spec_syntax.specs.Reading.{read}
use Rattle.spec_descriptors.specs.declared.fault.DescriptorFault.TheVariants as fault
use Rattle.spec_descriptors.specs.AudioElement.{substream_id_in}
use Rattle.obu_descriptors.proofs.audio_element.read_substreams.Given as goal

abbrev pub invariant-loop : goal.invariant-loop
invariant-loop l =
    IsOnByte l.view
    × (length l.substreams.items ≡ l.counter)
    × (read (λ f. fault.Field f) (each (l.count - l.counter) substream_id_in l.substreams.items) l.view ≡ read (λ f. fault.Field f) (each l.count substream_id_in []) l.initial.view)
