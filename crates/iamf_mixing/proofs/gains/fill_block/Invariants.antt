use Rattle.std.proofs.Common.{◌≡◌, ℕ, ◌+◌, ◌-◌, ◌<◌, ◌≤◌, length, map, get_or}
use Rattle.std.specs.List.{zip}
use Rattle.obu_timing.specs.TimingView.{view_fixed}
use Rattle.obu_data.specs.BlockView.{view_gain_part}
use Rattle.spec_play.specs.GainsOverTime.{subblock_gain, subblock_durations}
use Rattle.iamf_mixing.proofs.Subblocks.{EndsAt}
use Rattle.iamf_mixing.proofs.gains.fill_block.Given as goal

abbrev pub invariant-loop-i : goal.invariant-loop-i
invariant-loop-i l = record {
  ends : EndsAt (subblock_durations (view_fixed l.fixed)) l.i l.start l.fixed.duration l.at;
  inside : (k : ℕ) → k < length l.row → l.start ≤ l.first + k → l.first + k < l.at
      → get_or l.row k 0 ≡ subblock_gain (zip (subblock_durations (view_fixed l.fixed)) (map view_gain_part l.parts)) (l.first + k - l.start);
  before : (k : ℕ) → k < length l.row → l.first + k < l.start → get_or l.row k 0 ≡ get_or l.initial.row k 0;
  after : (k : ℕ) → k < length l.row → l.at ≤ l.first + k → get_or l.row k 0 ≡ get_or l.initial.row k 0;
}
