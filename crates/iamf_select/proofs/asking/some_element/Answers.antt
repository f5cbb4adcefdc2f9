use Rattle.std.proofs.Common.{rules, arith, ◌≡◌, true, false, refl, sym, ap, ◌∙◌, map}
use Rattle.std.proofs.lemmas.List.{length-map}
use Rattle.std.specs.List.{list_any}
use Rattle.spec_sequence.specs.Parts.{audio_elements}
use Rattle.spec_sequence.specs.Reading.{values_of}
use Rattle.obu_descriptors.specs.ElementView.{view_element}
use Rattle.obu_mix_elements.specs.MixElementView.{view_mix_element}
use Rattle.spec_play.specs.Mixes.{mixed_element, mixed_elements}
use Rattle.iamf_select.specs.ElementTests.{holds}
use Rattle.iamf_select.specs.CandidateView.{heard}
use Rattle.iamf_elements.proofs.Searches.{any_of_here, any_of_next, any_of_end}
use Rattle.iamf_select.proofs.Joined.{got_mapped, mixed_some, mixed_none}
use Rattle.iamf_select.proofs.asking.some_element.Goals as goal
use Rattle.iamf_select.proofs.asking.some_element.Goals.{in-Some+else-holds, in-None}

pub returns-then-holds : goal.returns-then-holds
returns-then-holds c =
    let s = c.as_slice-named-items.result.now in
    let e : s ≡ c.args.candidate.now.sub_mix.now.elements.items = search rules in
    let es = audio_elements (values_of c.args.candidate.now.sequence.now.entries) in
    let p = holds c.args.test (heard c.args.candidate.now) in
    let x = view_mix_element c.named-item.result in
    let own : p (record { element = view_element c.in-Some.element.now; gain = x.element_mix_gain }) ≡ true = sym c.holds.ensures ∙ c.if-holds.true in
    let here : list_any p (mixed_element es x) ≡ true = ap (list_any p) (mixed_some es x (view_element c.in-Some.element.now) c.in-Some.ensures.found) ∙ rw own refl in
    any_of_here p (mixed_element es) (map view_mix_element s) c.loop-named.named-index x (got_mapped view_mix_element s c.loop-named.named-index c.named-item.result (omega arith) c.named-item.is) here
    ∙ ap (λ ys. list_any p (mixed_elements es (map view_mix_element ys))) e

pub loop-named-preserved : goal.loop-named-preserved
loop-named-preserved c =
    let s = c.as_slice-named-items.result.now in
    let es = audio_elements (values_of c.args.candidate.now.sequence.now.entries) in
    let p = holds c.args.test (heard c.args.candidate.now) in
    let x = view_mix_element c.named-item.result in
    let at = got_mapped view_mix_element s c.loop-named.named-index c.named-item.result (omega arith) c.named-item.is in
    elim c.match-element_of.branch [
      | in-Some+else-holds w ↦
          let own : p (record { element = view_element w.in-Some.element.now; gain = x.element_mix_gain }) ≡ false = sym w.holds.ensures ∙ w.if-holds.false in
          let here : list_any p (mixed_element es x) ≡ false = ap (list_any p) (mixed_some es x (view_element w.in-Some.element.now) w.in-Some.ensures.found) ∙ rw own refl in
          any_of_next p (mixed_element es) (map view_mix_element s) c.loop-named.named-index x c.loop-named.invariant at here
      | in-None w ↦
          let here : list_any p (mixed_element es x) ≡ false = ap (list_any p) (mixed_none es x w.in-None.ensures.found) in
          any_of_next p (mixed_element es) (map view_mix_element s) c.loop-named.named-index x c.loop-named.invariant at here
    ]

pub returns : goal.returns
returns c =
    let s = c.as_slice-named-items.result.now in
    let e : s ≡ c.args.candidate.now.sub_mix.now.elements.items = search rules in
    let es = audio_elements (values_of c.args.candidate.now.sequence.now.entries) in
    let p = holds c.args.test (heard c.args.candidate.now) in
    any_of_end p (mixed_element es) (map view_mix_element s) c.loop-named.named-index (omega (arith, length-map s view_mix_element)) c.loop-named.invariant
    ∙ ap (λ ys. list_any p (mixed_elements es (map view_mix_element ys))) e
