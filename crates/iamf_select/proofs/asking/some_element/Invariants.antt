use Rattle.std.proofs.Common.{◌≡◌, false, map, take}
use Rattle.std.specs.List.{list_any}
use Rattle.spec_sequence.specs.Parts.{audio_elements}
use Rattle.spec_sequence.specs.Reading.{values_of}
use Rattle.obu_mix_elements.specs.MixElementView.{view_mix_element}
use Rattle.spec_play.specs.Mixes.{mixed_elements}
use Rattle.iamf_select.specs.ElementTests.{holds}
use Rattle.iamf_select.specs.CandidateView.{heard}
use Rattle.iamf_select.proofs.asking.some_element.Given as goal

abbrev pub invariant-loop-named : goal.invariant-loop-named
invariant-loop-named l = list_any (holds l.test (heard l.candidate)) (mixed_elements (audio_elements (values_of l.candidate.sequence.now.entries)) (take l.named-index (map view_mix_element l.named-items))) ≡ false
