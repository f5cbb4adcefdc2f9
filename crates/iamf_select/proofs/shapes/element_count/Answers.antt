use Rattle.std.proofs.Common.{arith, ◌≡◌, ◌+◌, map, length, ◌∙◌}
use Rattle.spec_sequence.specs.Parts.{audio_elements}
use Rattle.spec_sequence.specs.Reading.{values_of}
use Rattle.obu_mix_elements.specs.MixElementView.{view_mix_element}
use Rattle.spec_play.specs.Mixes.{mixed_element}
use Rattle.iamf_select.proofs.Joined.{got_mapped}
use Rattle.iamf_select.proofs.CountedElements.{counted}
use Rattle.iamf_select.proofs.shapes.element_count.Goals as goal
use Rattle.iamf_select.proofs.shapes.element_count.Goals.{then-is_there, else-is_there}

pub loop-named-preserved : goal.loop-named-preserved
loop-named-preserved c =
    let s = c.as_slice-named-items.result.now in
    let es = audio_elements (values_of c.args.candidate.now.sequence.now.entries) in
    let x = view_mix_element c.named-item.result in
    let at = got_mapped view_mix_element s c.loop-named.named-index c.named-item.result (omega arith) c.named-item.is in
    elim c.if-is_there.branch [
      | then-is_there w ↦
          let one : 1 ≡ length (mixed_element es x) = rw w.if-is_there.true at c.is_there.ensures in
          let more = counted (mixed_element es) (map view_mix_element s) c.loop-named.named-index x c.loop-named.count 1 at c.loop-named.invariant.0 one in
          (w.count-is ∙ more, omega arith)
      | else-is_there w ↦
          let none : 0 ≡ length (mixed_element es x) = rw w.if-is_there.false at c.is_there.ensures in
          let more = counted (mixed_element es) (map view_mix_element s) c.loop-named.named-index x c.loop-named.count 0 at c.loop-named.invariant.0 none in
          let same : c.if-is_there.count ≡ c.loop-named.count + 0 = omega arith in
          (same ∙ more, omega arith)
    ]
