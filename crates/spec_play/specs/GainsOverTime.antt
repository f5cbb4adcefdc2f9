-- The gain of a mix at a tick (IAMF 1.0.0, "Parameter Block OBU Syntax and Semantics" and "Mix Gain Parameter Data"). Ticks are
-- counted from the start of the first unit, before trims.
use Rattle.std.specs.Prelude.{ℕ, ◌+◌, ◌-◌, ◌*◌, ◌/◌, ◌==◌, min, max, nat_lt, nat_le, Bool, ◌&&◌, if◌then◌else◌, ℤ, List, [], ◌∷◌, map, find, Option, Some, None}
use Rattle.std.specs.List.{flat_map, zip, range_with_len, enumerate_from}
use Rattle.spec_gains.specs.Gains.{one, gain_of}
use Rattle.spec_descriptors.specs.ParameterDefinition.{FixedFields}
use Rattle.spec_descriptors.specs.MixGain.{MixGainFields}
use Rattle.spec_blocks.specs.ParameterBlock.{GainFields, Step, Linear, Bezier, ContentFields, Gain, subblocks_of}
use Rattle.spec_sequence.specs.Parts.{BlockValue, UnitValue}
use Rattle.spec_play.specs.Mixes.{Rendition, unit_length}

-- ---- subblocks

-- how long each subblock lasts: as listed, or all alike, the last as long as is left
abbrev pub subblock_durations : FixedFields → List ℕ
subblock_durations fixed =
    if fixed.constant_subblock_duration == 0 then fixed.durations
    else map (λ k. min fixed.constant_subblock_duration (fixed.duration - k * fixed.constant_subblock_duration)) (range_with_len 0 (subblocks_of fixed))

-- The gain at tick k of a subblock of n ticks, in parts of 10^12. A linear one goes from its start value, which it has at its
-- first tick, to its end value, which it would have at tick n. A Bezier curve is not played.
abbrev pub part_gain : ℕ → GainFields → ℕ → ℕ
part_gain n (Step start) k = gain_of start
part_gain n (Linear start end) k = (gain_of start * (n - k) + gain_of end * k) / n
part_gain n (Bezier start end control time) k = gain_of start

-- the gain at tick k of subblocks that follow each other; the durations of a block's subblocks add up to its own
abbrev pub subblock_gain : List (ℕ × GainFields) → ℕ → ℕ
subblock_gain [] k = one
subblock_gain (part ∷ parts) k = if nat_lt k part.0 then part_gain part.0 part.1 k else subblock_gain parts (k - part.0)

-- ---- blocks

-- the timing and the subblocks of a block: its own timing, or that of the definition
pub record GainBlock : Type 0 where
  pub fixed : FixedFields
  pub gains : List GainFields

abbrev pub gain_block_in : Option FixedFields → ContentFields → List GainBlock
gain_block_in defined (Gain (Some fixed) gains) = record { fixed = fixed; gains = gains } ∷ []
gain_block_in (Some fixed) (Gain None gains) = record { fixed = fixed; gains = gains } ∷ []
gain_block_in _ _ = []

abbrev pub gain_block_of : MixGainFields → BlockValue → List GainBlock
gain_block_of gain block = if block.fields.parameter_id == gain.definition.parameter_id then gain_block_in gain.definition.fixed block.fields.content else []

-- the blocks of a gain, each with the number of its unit
abbrev pub unit_gain_blocks : MixGainFields → ℕ × UnitValue → List (ℕ × GainBlock)
unit_gain_blocks gain (u, unit) = map (λ block. (u, block)) (flat_map (gain_block_of gain) unit.blocks)

abbrev pub gain_blocks : MixGainFields → List UnitValue → List (ℕ × GainBlock)
gain_blocks gain units = flat_map (unit_gain_blocks gain) (enumerate_from 0 units)

-- ---- time

-- a block that starts at a tick
pub record TimedBlock : Type 0 where
  pub start : ℕ
  pub block : GainBlock

-- Each block starts with its unit or where the one before it ends, whichever is later; `end` is where the last one ended.
abbrev pub timed_after : (length end : ℕ) → List (ℕ × GainBlock) → List TimedBlock
timed_after length end [] = []
timed_after length end (placed ∷ blocks) =
    let start = max (placed.0 * length) end in
    record { start = start; block = placed.1 } ∷ timed_after length (start + placed.1.fixed.duration) blocks

abbrev pub covers : ℕ → TimedBlock → Bool
covers tick timed = nat_le timed.start tick && nat_lt tick (timed.start + timed.block.fixed.duration)

-- the gain of a block that covers a tick, or the default gain
abbrev pub covered_gain : ℤ → ℕ → Option TimedBlock → ℕ
covered_gain default tick None = gain_of default
covered_gain default tick (Some timed) = subblock_gain (zip (subblock_durations timed.block.fixed) timed.block.gains) (tick - timed.start)

-- in parts of 10^12
unfoldable pub gain_at : Rendition → MixGainFields → ℕ → ℕ
gain_at r gain tick = covered_gain gain.default_mix_gain tick (find (covers tick) (timed_after (unit_length r) 0 (gain_blocks gain r.units)))
