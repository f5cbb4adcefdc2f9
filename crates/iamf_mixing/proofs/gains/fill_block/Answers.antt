use Rattle.std.proofs.Common.{arith, ◌≡◌, ◌<◌, ◌≤◌, ◌+◌, length, map, get_or, ◌∙◌, sym, min, ◌⊎◌, inl, inr}
use Rattle.std.proofs.lemmas.Bool.{cases_lt}
use Rattle.std.proofs.Math.Logic.{⊎_elim}
use Rattle.std.proofs.lemmas.List.{length-map}
use Rattle.obu_timing.specs.TimingView.{view_fixed}
use Rattle.obu_data.specs.BlockView.{view_gain_part}
use Rattle.spec_play.specs.GainsOverTime.{subblock_durations}
use Rattle.iamf_mixing.specs.Rows.{timed_block}
use Rattle.iamf_mixing.proofs.Subblocks.{ends_next, part_inside, gain_past}
use Rattle.iamf_mixing.proofs.GainsOver.{over_inside, over_before, over_after}
use Rattle.iamf_mixing.proofs.gains.fill_block.Goals as goal

pub loop-i-preserved : goal.loop-i-preserved
loop-i-preserved c =
    let durations = subblock_durations (view_fixed c.args.fixed.now) in
    let parts = c.args.parts.now in
    let duration = c.args.fixed.now.duration in
    let i = c.loop-i.i in
    let at = c.loop-i.at in
    let h : i < length durations = omega arith in
    let g : i < length parts = omega arith in
    let lasts : c.subblock_duration-duration.result ≡ get_or durations i 0 = c.subblock_duration-duration.ensures in
    let next : c.min-next.result ≡ min (c.args.start + duration) (at + get_or durations i 0) = omega arith in
    let ends = c.loop-i.invariant.ends in
    record {
      ends = ends_next durations i c.args.start duration at c.min-next.result h ends next;
      inside = λ k low begun within.
          let there : k < length c.loop-i.row = omega arith in
          ⊎_elim
          (λ (passed : c.args.first + k < at). c.fill_part.ensures.before k there passed ∙ c.loop-i.invariant.inside k there begun passed)
          (λ (now : at ≤ c.args.first + k). c.fill_part.ensures.inside k there now within ∙ part_inside durations parts i c.args.start duration at (c.args.first + k) c.subblock_duration-duration.result _ h g lasts ends now (omega arith) (omega arith))
          (cases_lt (c.args.first + k) at);
      before = λ k low early. let there : k < length c.loop-i.row = omega arith in c.fill_part.ensures.before k there (omega arith) ∙ c.loop-i.invariant.before k there early;
      after = λ k low late. let there : k < length c.loop-i.row = omega arith in c.fill_part.ensures.after k there late ∙ c.loop-i.invariant.after k there (omega arith);
    }

pub returns : goal.returns
returns c = λ k low.
    let durations = subblock_durations (view_fixed c.args.fixed.now) in
    let gains = map view_gain_part c.args.parts.now in
    let timed = timed_block c.args.start c.args.fixed.now c.args.parts.now in
    let start = c.args.start in
    let duration = c.args.fixed.now.duration in
    let i = c.loop-i.i in
    let at = c.loop-i.at in
    let t = c.args.first + k in
    let old = get_or c.args.row.now k 0 in
    let there : k < length c.loop-i.row = omega arith in
    let many : length gains ≡ length c.args.parts.now = length-map c.args.parts.now view_gain_part in
    let all : (length durations ≤ i) ⊎ (length gains ≤ i) = ⊎_elim (λ (less : i < length durations). inr (omega arith)) (λ (past : length durations ≤ i). inl past) (cases_lt i (length durations)) in
    let ends = c.loop-i.invariant.ends in
    ⊎_elim
    (λ (early : t < start). c.fill_level.ensures.before k (omega arith) ∙ c.loop-i.invariant.before k there early ∙ sym (over_before timed t old early))
    (λ (begun : start ≤ t). ⊎_elim
    (λ (within : t < at). c.fill_level.ensures.before k (omega arith) ∙ c.loop-i.invariant.inside k there begun within ∙ sym (over_inside timed t old begun (omega arith)))
    (λ (past : at ≤ t). ⊎_elim
    (λ (going_on : t < start + duration). c.fill_level.ensures.inside k (omega arith) (omega arith) ∙ gain_past durations gains i start duration at t all ends past going_on ∙ sym (over_inside timed t old begun going_on))
    (λ (late : start + duration ≤ t). c.fill_level.ensures.after k (omega arith) ∙ c.loop-i.invariant.after k there past ∙ sym (over_after timed t old late))
    (cases_lt t (start + duration)))
    (cases_lt t at))
    (cases_lt t start)
