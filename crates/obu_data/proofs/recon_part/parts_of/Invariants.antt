use Rattle.std.proofs.Common.{◌≡◌, [], ◌-◌, map}
use Rattle.spec_bits.specs.Cursor.{IsOnByte}
use Rattle.spec_syntax.specs.Syntax.{each}
use Rattle.spec_syntax.specs.Reading.{read}
use Rattle.spec_blocks.specs.declared.fault.BlockFault.TheVariants as fault
use Rattle.spec_blocks.specs.ParameterBlock.{recon_in}
use Rattle.obu_data.specs.BlockView.{view_recon_part}
use Rattle.obu_data.proofs.recon_part.parts_of.Given as goal

abbrev pub invariant-loop : goal.invariant-loop
invariant-loop l =
    IsOnByte l.view
    × (read (λ f. fault.Field f) (each (l.count - l.counter) recon_in (map view_recon_part l.parts.items)) l.view ≡ read (λ f. fault.Field f) (each l.count recon_in []) l.initial.view)
