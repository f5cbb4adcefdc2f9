use Rattle.std.proofs.Common.{◌≡◌, false, take}
use Rattle.std.specs.Prelude.{◌==◌}
use Rattle.std.specs.List.{list_any}
use Rattle.spec_sequence.specs.Parts.{audio_elements}
use Rattle.spec_sequence.specs.Reading.{values_of}
use Rattle.iamf_select.proofs.lookup.element_of.Given as goal

abbrev pub invariant-loop-i : goal.invariant-loop-i
invariant-loop-i l = list_any (λ e. e.audio_element_id == l.id) (take l.i (audio_elements (values_of l.sequence.entries))) ≡ false
