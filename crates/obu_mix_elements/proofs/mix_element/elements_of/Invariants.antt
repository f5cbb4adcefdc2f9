use Rattle.std.proofs.Common.{◌≡◌, [], ◌-◌, map}
use Rattle.spec_bits.specs.Cursor.{IsOnByte}
use Rattle.spec_syntax.specs.Syntax.{each}
use Rattle.spec_syntax.specs.Reading.{read}
use Rattle.spec_descriptors.specs.declared.fault.MixFault.TheVariants as fault
use Rattle.spec_descriptors.specs.MixPresentation.{mix_element_in}
use Rattle.obu_mix_elements.specs.MixElementView.{view_mix_element}
use Rattle.obu_mix_elements.proofs.mix_element.elements_of.Given as goal

abbrev pub invariant-loop : goal.invariant-loop
invariant-loop l =
    IsOnByte l.view
    × (read (λ f. fault.Field f) (each (l.count - l.counter) (mix_element_in l.label_count) (map view_mix_element l.elements.items)) l.view ≡ read (λ f. fault.Field f) (each l.count (mix_element_in l.label_count) []) l.initial.view)
