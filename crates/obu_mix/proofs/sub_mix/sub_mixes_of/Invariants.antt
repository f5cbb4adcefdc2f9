use Rattle.std.proofs.Common.{◌≡◌, [], ◌-◌, map}
use Rattle.spec_bits.specs.Cursor.{IsOnByte}
use Rattle.spec_syntax.specs.Syntax.{each}
use Rattle.spec_syntax.specs.Reading.{read}
use Rattle.spec_descriptors.specs.declared.fault.MixFault.TheVariants as fault
use Rattle.spec_descriptors.specs.MixPresentation.{sub_mix_in}
use Rattle.obu_mix.specs.SubMixView.{view_sub_mix}
use Rattle.obu_mix.proofs.sub_mix.sub_mixes_of.Given as goal

abbrev pub invariant-loop : goal.invariant-loop
invariant-loop l =
    IsOnByte l.view
    × (read (λ f. fault.Field f) (each (l.count - l.counter) (sub_mix_in l.label_count) (map view_sub_mix l.sub_mixes.items)) l.view ≡ read (λ f. fault.Field f) (each l.count (sub_mix_in l.label_count) []) l.initial.view)
