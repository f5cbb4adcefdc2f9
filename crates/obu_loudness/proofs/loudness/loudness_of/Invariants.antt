use Rattle.std.proofs.Common.{◌≡◌, [], ◌-◌, map}
use Rattle.spec_bits.specs.Cursor.{IsOnByte}
use Rattle.spec_syntax.specs.Syntax.{each}
use Rattle.spec_syntax.specs.Reading.{read}
use Rattle.spec_descriptors.specs.declared.fault.MixFault.TheVariants as fault
use Rattle.spec_descriptors.specs.MixPresentation.{loudness_in}
use Rattle.obu_loudness.specs.LoudnessView.{view_loudness}
use Rattle.obu_loudness.proofs.loudness.loudness_of.Given as goal

abbrev pub invariant-loop : goal.invariant-loop
invariant-loop l =
    IsOnByte l.view
    × (read (λ f. fault.Field f) (each (l.count - l.counter) loudness_in (map view_loudness l.layouts.items)) l.view ≡ read (λ f. fault.Field f) (each l.count loudness_in []) l.initial.view)
