use Rattle.std.proofs.Common.{◌≡◌, ◌≤◌, map, take}
use Rattle.spec_sequence.specs.Parts.{audio_elements}
use Rattle.spec_sequence.specs.Reading.{values_of}
use Rattle.obu_mix_elements.specs.MixElementView.{view_mix_element}
use Rattle.spec_play.specs.Mixes.{mixed_elements}
use Rattle.spec_play.specs.Selection.{coded_channels}
use Rattle.iamf_select.proofs.shapes.has_many_channels.Given as goal

abbrev pub invariant-loop-named : goal.invariant-loop-named
invariant-loop-named l =
    let seen = mixed_elements (audio_elements (values_of l.candidate.sequence.now.entries)) (take l.named-index (map view_mix_element l.named-items)) in
    (l.total ≡ coded_channels seen) × (l.total ≤ 28)
