use Rattle.std.proofs.Common.{rules, arith, ◌≡◌, map, sym, ap, ◌∙◌}
use Rattle.spec_play.specs.Waves.{output_counts, first_count}
use Rattle.spec_play.specs.Selection.{are_different}
use Rattle.spec_sequence.specs.Parts.{audio_elements}
use Rattle.spec_sequence.specs.Reading.{values_of}
use Rattle.obu_mix_elements.specs.MixElementView.{view_mix_element}
use Rattle.spec_play.specs.Mixes.{mixed_elements}
use Rattle.iamf_select.proofs.Joined.{got_mapped}
use Rattle.iamf_select.proofs.CountedElements.{other_here, other_next}
use Rattle.iamf_select.proofs.shapes.has_other_outputs.Goals as goal

pub returns-then-is_other : goal.returns-then-is_other
returns-then-is_other c =
    let s = c.as_slice-named-items.result.now in
    let e : s ≡ c.args.candidate.now.sub_mix.now.elements.items = search rules in
    let es = audio_elements (values_of c.args.candidate.now.sequence.now.entries) in
    let first : c.first_outputs-first.result ≡ first_count (output_counts (mixed_elements es (map view_mix_element s))) = c.first_outputs-first.ensures ∙ ap (λ ys. first_count (output_counts (mixed_elements es (map view_mix_element ys)))) (sym e) in
    let at = got_mapped view_mix_element s c.loop-named.named-index c.named-item.result (omega arith) c.named-item.is in
    other_here es (map view_mix_element s) c.loop-named.named-index (view_mix_element c.named-item.result) c.first_outputs-first.result at first (sym c.is_other.ensures ∙ c.if-is_other.true)
    ∙ ap (λ ys. are_different (output_counts (mixed_elements es (map view_mix_element ys)))) e

pub loop-named-preserved : goal.loop-named-preserved
loop-named-preserved c =
    let s = c.as_slice-named-items.result.now in
    let es = audio_elements (values_of c.args.candidate.now.sequence.now.entries) in
    let at = got_mapped view_mix_element s c.loop-named.named-index c.named-item.result (omega arith) c.named-item.is in
    other_next es (map view_mix_element s) c.loop-named.named-index (view_mix_element c.named-item.result) c.first_outputs-first.result at c.loop-named.invariant (sym c.is_other.ensures ∙ c.if-is_other.false)
