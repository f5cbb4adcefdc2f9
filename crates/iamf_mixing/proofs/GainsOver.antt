-- The gains of a row once a block stands over it, by where a tick stands.
use Rattle.std.proofs.Common.{arith, ◌≡◌, ◌<◌, ◌≤◌, ◌+◌, ◌-◌, ℕ}
use Rattle.std.specs.List.{zip}
use Rattle.std.proofs.lemmas.Bool.Decides.{nat_tests}
use Rattle.spec_play.specs.GainsOverTime.{TimedBlock, subblock_gain, subblock_durations}
use Rattle.iamf_mixing.specs.Rows.{gain_over}

pub over_inside : (timed : TimedBlock) (t old : ℕ) → timed.start ≤ t → t < timed.start + timed.block.fixed.duration
    → gain_over timed t old ≡ subblock_gain (zip (subblock_durations timed.block.fixed) timed.block.gains) (t - timed.start)
over_inside timed t old begun going_on = grind (arith, nat_tests)

pub over_before : (timed : TimedBlock) (t old : ℕ) → t < timed.start → gain_over timed t old ≡ old
over_before timed t old early = grind (arith, nat_tests)

pub over_after : (timed : TimedBlock) (t old : ℕ) → timed.start + timed.block.fixed.duration ≤ t → gain_over timed t old ≡ old
over_after timed t old late = grind (arith, nat_tests)
