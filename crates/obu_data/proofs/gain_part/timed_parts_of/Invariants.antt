use Rattle.std.proofs.Common.{◌≡◌, ◌≤◌, [], ◌-◌, ◌*◌, length, map, sum}
use Rattle.std.specs.List.{zip}
use Rattle.spec_bits.specs.Cursor.{IsOnByte}
use Rattle.spec_syntax.specs.Syntax.{each}
use Rattle.spec_syntax.specs.Reading.{read}
use Rattle.spec_blocks.specs.declared.fault.BlockFault.TheVariants as fault
use Rattle.spec_blocks.specs.ParameterBlock.{timed_gain_in}
use Rattle.obu_data.specs.BlockView.{view_gain_part}
use Rattle.obu_data.proofs.gain_part.timed_parts_of.Given as goal

abbrev pub invariant-loop : goal.invariant-loop
invariant-loop l =
    IsOnByte l.view
    × (length l.durations.items ≡ length l.parts.items)
    × (l.total ≡ sum l.durations.items)
    × (l.total ≤ 4294967295 * l.counter)
    × (read (λ f. fault.Field f) (each (l.count - l.counter) timed_gain_in (zip l.durations.items (map view_gain_part l.parts.items))) l.view ≡ read (λ f. fault.Field f) (each l.count timed_gain_in []) l.initial.view)
