use Rattle.std.proofs.Common.{◌≡◌, [], ◌-◌, map}
use Rattle.spec_bits.specs.Cursor.{IsOnByte}
use Rattle.spec_syntax.specs.Syntax.{each}
use Rattle.spec_syntax.specs.Reading.{read}
use Rattle.spec_descriptors.specs.declared.fault.MixFault.TheVariants as fault
use Rattle.spec_descriptors.specs.MixPresentation.{anchor_in}
use Rattle.obu_loudness.specs.LoudnessView.{view_anchor}
use Rattle.obu_loudness.proofs.loudness.all_anchors_of.Given as goal

abbrev pub invariant-loop : goal.invariant-loop
invariant-loop l =
    IsOnByte l.view
    × (read (λ f. fault.Field f) (each (l.count - l.counter) anchor_in (map view_anchor l.anchors.items)) l.view ≡ read (λ f. fault.Field f) (each l.count anchor_in []) l.initial.view)
