use Rattle.std.proofs.Common.{arith, ◌≡◌, ◌<◌, length}
use Rattle.obu_mix_elements.specs.MixGainView.{view_mix_gain}
use Rattle.spec_play.specs.Mixes.{unit_length}
use Rattle.iamf_mixing.proofs.TrackSteps.{complete}
use Rattle.iamf_play.proofs.gains.fill_row.Goals as goal

pub returns-clause-fills : goal.returns-clause-fills
returns-clause-fills c = λ r long same on.
    let long_now : unit_length r ≡ length c.loop-v.row = omega arith in
    let filled = c.loop-v.invariant.filled r long_now same on in
    let past : c.args.u < c.loop-v.track.unit = omega arith in
    let again : length c.loop-v.row ≡ unit_length r = omega arith in
    (filled.on, complete r (view_mix_gain c.args.gain.now) c.args.u c.loop-v.row c.loop-v.track past (c.loop-v.invariant.past (omega arith)) again filled)
