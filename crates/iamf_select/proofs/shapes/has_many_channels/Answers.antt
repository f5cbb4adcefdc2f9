use Rattle.std.proofs.Common.{rules, arith, ◌≡◌, ◌<◌, ◌+◌, map, sym, ap, ◌∙◌}
use Rattle.std.specs.Prelude.{unwrap_or, nat_lt}
use Rattle.std.proofs.lemmas.Bool.{lt-ltb}
use Rattle.spec_descriptors.specs.AudioElement.{coded_channels_of}
use Rattle.spec_play.specs.Selection.{coded_channels}
use Rattle.spec_sequence.specs.Parts.{audio_elements}
use Rattle.spec_sequence.specs.Reading.{values_of}
use Rattle.obu_mix_elements.specs.MixElementView.{view_mix_element}
use Rattle.spec_play.specs.Mixes.{MixedElement, mixed_element, mixed_elements}
use Rattle.iamf_select.proofs.Joined.{got_mapped}
use Rattle.iamf_select.proofs.CountedElements.{summed, within_sum}
use Rattle.iamf_select.proofs.shapes.has_many_channels.Goals as goal

pub returns-then-channels-total : goal.returns-then-channels-total
returns-then-channels-total c =
    let s = c.as_slice-named-items.result.now in
    let e : s ≡ c.args.candidate.now.sub_mix.now.elements.items = search rules in
    let es = audio_elements (values_of c.args.candidate.now.sequence.now.entries) in
    let x = view_mix_element c.named-item.result in
    let at = got_mapped view_mix_element s c.loop-named.named-index c.named-item.result (omega arith) c.named-item.is in
    let more = summed (λ (m : MixedElement). unwrap_or (coded_channels_of m.element.config) 0) (mixed_element es) (map view_mix_element s) c.loop-named.named-index x c.loop-named.total c.channels_of-channels.result at c.loop-named.invariant.0 c.channels_of-channels.ensures in
    let within = within_sum (λ (m : MixedElement). unwrap_or (coded_channels_of m.element.config) 0) (mixed_element es) (map view_mix_element s) (c.loop-named.named-index + 1) in
    let large : 28 < coded_channels (mixed_elements es (map view_mix_element s)) = omega arith in
    sym (lt-ltb 28 (coded_channels (mixed_elements es (map view_mix_element s))) large) ∙ ap (λ ys. nat_lt 28 (coded_channels (mixed_elements es (map view_mix_element ys)))) e

pub loop-named-preserved : goal.loop-named-preserved
loop-named-preserved c =
    let s = c.as_slice-named-items.result.now in
    let es = audio_elements (values_of c.args.candidate.now.sequence.now.entries) in
    let x = view_mix_element c.named-item.result in
    let at = got_mapped view_mix_element s c.loop-named.named-index c.named-item.result (omega arith) c.named-item.is in
    let more = summed (λ (m : MixedElement). unwrap_or (coded_channels_of m.element.config) 0) (mixed_element es) (map view_mix_element s) c.loop-named.named-index x c.loop-named.total c.channels_of-channels.result at c.loop-named.invariant.0 c.channels_of-channels.ensures in
    (more, omega arith)
