use Rattle.std.proofs.Common.{arith, ◌≡◌, ◌≤◌, ℕ, ap, length}
use Rattle.obu_mix_elements.specs.MixGainView.{view_mix_gain}
use Rattle.spec_play.specs.Mixes.{unit_length, unit_of}
use Rattle.iamf_play.proofs.gains.take_unit.Goals as goal

pub returns-clause-takes : goal.returns-clause-takes
returns-clause-takes c = λ r long is filled.
    let count = c.block_count-i-end.ensures.counts (unit_of r c.args.track.now.unit) is in
    let same = ap (λ (v : ℕ). length (unit_of r v).blocks) c.loop-i.invariant.unit in
    let done : length (unit_of r c.loop-i.track.unit).blocks ≤ c.loop-i.track.block = omega (arith, count, same) in
    let long_now : unit_length r ≡ length c.loop-i.row = omega arith in
    c.next_unit.ensures.filled r (view_mix_gain c.args.gain.now) c.args.u c.loop-i.row done (c.loop-i.invariant.filled r long_now is filled)
