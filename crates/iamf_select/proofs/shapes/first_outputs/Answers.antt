use Rattle.std.proofs.Common.{rules, arith, ◌≡◌, map, sym, ap, ◌∙◌}
use Rattle.spec_play.specs.Waves.{output_counts, first_count}
use Rattle.spec_sequence.specs.Parts.{audio_elements}
use Rattle.spec_sequence.specs.Reading.{values_of}
use Rattle.obu_mix_elements.specs.MixElementView.{view_mix_element}
use Rattle.spec_play.specs.Mixes.{mixed_elements}
use Rattle.iamf_select.proofs.Joined.{got_mapped}
use Rattle.iamf_select.proofs.CountedElements.{outputs_joined, first_of_joined}
use Rattle.iamf_select.proofs.shapes.first_outputs.Goals as goal

pub returns-in-Some : goal.returns-in-Some
returns-in-Some c =
    let s = c.as_slice-named-items.result.now in
    let e : s ≡ c.args.candidate.now.sub_mix.now.elements.items = search rules in
    let es = audio_elements (values_of c.args.candidate.now.sequence.now.entries) in
    let at = got_mapped view_mix_element s c.loop-named.named-index c.named-item.result (omega arith) c.named-item.is in
    first_of_joined es (map view_mix_element s) c.loop-named.named-index (view_mix_element c.named-item.result) c.in-Some.outputs at c.loop-named.invariant (sym c.in-Some.ensures)
    ∙ ap (λ ys. first_count (output_counts (mixed_elements es (map view_mix_element ys)))) e

pub loop-named-preserved : goal.loop-named-preserved
loop-named-preserved c =
    let s = c.as_slice-named-items.result.now in
    let es = audio_elements (values_of c.args.candidate.now.sequence.now.entries) in
    let at = got_mapped view_mix_element s c.loop-named.named-index c.named-item.result (omega arith) c.named-item.is in
    outputs_joined es (map view_mix_element s) c.loop-named.named-index (view_mix_element c.named-item.result) at c.loop-named.invariant (sym c.in-None.ensures)
