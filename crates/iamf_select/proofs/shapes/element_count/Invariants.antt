use Rattle.std.proofs.Common.{◌≡◌, ◌≤◌, map, take, length}
use Rattle.spec_sequence.specs.Parts.{audio_elements}
use Rattle.spec_sequence.specs.Reading.{values_of}
use Rattle.obu_mix_elements.specs.MixElementView.{view_mix_element}
use Rattle.spec_play.specs.Mixes.{mixed_elements}
use Rattle.iamf_select.proofs.shapes.element_count.Given as goal

abbrev pub invariant-loop-named : goal.invariant-loop-named
invariant-loop-named l =
    let seen = mixed_elements (audio_elements (values_of l.candidate.sequence.now.entries)) (take l.named-index (map view_mix_element l.named-items)) in
    (l.count ≡ length seen) × (l.count ≤ l.named-index)
