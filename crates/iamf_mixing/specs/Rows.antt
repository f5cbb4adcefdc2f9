-- The gains of a row of ticks once a block stands over it.
use Rattle.std.specs.Prelude.{ℕ, ◌-◌, List, map, if◌then◌else◌}
use Rattle.std.specs.List.{zip}
use Rattle.obu_timing.specs.declared.timing.Fixed.{Fixed}
use Rattle.obu_timing.specs.TimingView.{view_fixed}
use Rattle.obu_data.specs.declared.gain_part.GainPart.{GainPart}
use Rattle.obu_data.specs.BlockView.{view_gain_part}
use Rattle.spec_play.specs.GainsOverTime.{GainBlock, TimedBlock, covers, subblock_gain, subblock_durations}

-- a block with this timing and these subblocks
abbrev pub block_of : Fixed → List GainPart → GainBlock
block_of fixed parts = record { fixed = view_fixed fixed; gains = map view_gain_part parts }

-- one that starts at a tick
abbrev pub timed_block : ℕ → Fixed → List GainPart → TimedBlock
timed_block start fixed parts = record { start = start; block = block_of fixed parts }

-- the gain at a tick that had another one before
abbrev pub gain_over : TimedBlock → (tick before : ℕ) → ℕ
gain_over timed tick before =
    if covers tick timed then subblock_gain (zip (subblock_durations timed.block.fixed) timed.block.gains) (tick - timed.start) else before
