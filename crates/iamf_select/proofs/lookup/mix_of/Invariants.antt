use Rattle.std.proofs.Common.{◌≡◌, false, take}
use Rattle.std.specs.Prelude.{◌==◌}
use Rattle.std.specs.List.{list_any}
use Rattle.spec_sequence.specs.Parts.{mix_presentations}
use Rattle.spec_sequence.specs.Reading.{values_of}
use Rattle.iamf_select.proofs.lookup.mix_of.Given as goal

abbrev pub invariant-loop-i : goal.invariant-loop-i
invariant-loop-i l = list_any (λ m. m.mix_presentation_id == l.id) (take l.i (mix_presentations (values_of l.sequence.entries))) ≡ false
