use Rattle.std.proofs.Common.{◌≡◌, false, map, take}
use Rattle.std.specs.Prelude.{not, ◌==◌}
use Rattle.std.specs.List.{list_any}
use Rattle.spec_sequence.specs.Parts.{audio_elements}
use Rattle.spec_sequence.specs.Reading.{values_of}
use Rattle.obu_mix_elements.specs.MixElementView.{view_mix_element}
use Rattle.spec_play.specs.Mixes.{mixed_elements}
use Rattle.spec_play.specs.Waves.{output_counts}
use Rattle.iamf_select.proofs.shapes.has_other_outputs.Given as goal

abbrev pub invariant-loop-named : goal.invariant-loop-named
invariant-loop-named l =
    let seen = mixed_elements (audio_elements (values_of l.candidate.sequence.now.entries)) (take l.named-index (map view_mix_element l.named-items)) in
    list_any (λ n. not (n == l.first)) (output_counts seen) ≡ false
