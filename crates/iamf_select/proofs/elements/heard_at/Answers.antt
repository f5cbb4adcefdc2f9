use Rattle.std.proofs.Common.{rules, arith, ◌≡◌, map, take, length, refl, sym, ap, ◌∙◌}
use Rattle.std.specs.Prelude.{slice_get}
use Rattle.spec_sequence.specs.Parts.{audio_elements}
use Rattle.spec_sequence.specs.Reading.{values_of}
use Rattle.obu_descriptors.specs.ElementView.{view_element}
use Rattle.obu_mix_elements.specs.MixElementView.{view_mix_element}
use Rattle.spec_play.specs.Mixes.{mixed_element, mixed_elements}
use Rattle.iamf_select.proofs.Joined.{got_mapped, mixed_some, mixed_none}
use Rattle.iamf_select.proofs.CountedElements.{counted, got_joined}
use Rattle.iamf_select.proofs.elements.heard_at.Goals as goal
use Rattle.iamf_select.proofs.elements.heard_at.Goals.{in-Some+else-left-eq0, in-None}

pub returns-then-left-eq0-clause-is : goal.returns-then-left-eq0-clause-is
returns-then-left-eq0-clause-is c =
    let s = c.as_slice-named-items.result.now in
    let e : s ≡ c.args.candidate.now.sub_mix.now.elements.items = search rules in
    let es = audio_elements (values_of c.args.candidate.now.sequence.now.entries) in
    let x = view_mix_element c.named-item.result in
    let at = got_mapped view_mix_element s c.loop-named.named-index c.named-item.result (omega arith) c.named-item.is in
    ap (λ ys. slice_get (mixed_elements es (map view_mix_element ys)) c.args.i) (sym e)
    ∙ got_joined (mixed_element es) (map view_mix_element s) c.loop-named.named-index x (record { element = view_element c.in-Some.element.now; gain = x.element_mix_gain }) c.loop-named.left c.args.i at
    (mixed_some es x (view_element c.in-Some.element.now) c.in-Some.ensures.found) c.if-left-eq0.true c.loop-named.invariant

pub loop-named-preserved : goal.loop-named-preserved
loop-named-preserved c =
    let s = c.as_slice-named-items.result.now in
    let es = audio_elements (values_of c.args.candidate.now.sequence.now.entries) in
    let x = view_mix_element c.named-item.result in
    let at = got_mapped view_mix_element s c.loop-named.named-index c.named-item.result (omega arith) c.named-item.is in
    let seen = length (mixed_elements es (take c.loop-named.named-index (map view_mix_element s))) in
    elim c.match-element_of.branch [
      | in-Some+else-left-eq0 w ↦
          let one : 1 ≡ length (mixed_element es x) = sym (ap length (mixed_some es x (view_element w.in-Some.element.now) w.in-Some.ensures.found)) in
          let more = counted (mixed_element es) (map view_mix_element s) c.loop-named.named-index x seen 1 at refl one in
          omega (arith, w.if-left-eq0.false, w.left-is)
      | in-None w ↦
          let none : 0 ≡ length (mixed_element es x) = sym (ap length (mixed_none es x w.in-None.ensures.found)) in
          let more = counted (mixed_element es) (map view_mix_element s) c.loop-named.named-index x seen 0 at refl none in
          omega (arith, w.left-is)
    ]
