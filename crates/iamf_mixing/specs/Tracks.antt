-- The blocks of a mix gain that a track has not passed, and the rows of gains that it fills.
use Rattle.std.specs.Prelude.{◌≡◌, ℕ, ◌+◌, ◌*◌, ◌<◌, ◌≤◌, List, ◌∷◌, ◌++◌, map, drop, length, find, slice_index}
use Rattle.std.specs.List.{flat_map, enumerate_from}
use Rattle.spec_gains.specs.Gains.{gain_of}
use Rattle.spec_descriptors.specs.MixGain.{MixGainFields}
use Rattle.spec_play.specs.Mixes.{Rendition, unit_length, unit_of}
use Rattle.spec_play.specs.GainsOverTime.{GainBlock, gain_block_of, unit_gain_blocks, gain_blocks, timed_after, covers, gain_at}
use Rattle.iamf_mixing.specs.declared.track.GainTrack.{GainTrack}

-- the blocks of a gain from block i of unit v on, each with the number of its unit
abbrev pub blocks_from : Rendition → MixGainFields → (v i : ℕ) → List (ℕ × GainBlock)
blocks_from r gain v i =
    map (λ block. (v, block)) (flat_map (gain_block_of gain) (drop i (unit_of r v).blocks)) ++ flat_map (unit_gain_blocks gain) (enumerate_from (v + 1) (drop (v + 1) r.units))

-- From where it ends on, the blocks that a track has not passed cover each tick as all do.
pub record IsOn (r : Rendition) (gain : MixGainFields) (track : GainTrack) : Type 0 where
  pub rest : (t : ℕ) → track.end ≤ t
      → find (covers t) (timed_after (unit_length r) 0 (gain_blocks gain r.units)) ≡ find (covers t) (timed_after (unit_length r) track.end (blocks_from r gain track.unit track.block))

-- A row of the ticks of unit u has the gains of those before the track's end, and the default gain at the others.
pub record IsFilled (r : Rendition) (gain : MixGainFields) (u : ℕ) (row : List ℕ) (track : GainTrack) : Type 0 where
  pub on : IsOn r gain track
  pub done : (k : ℕ) → k < length row → u * unit_length r + k < track.end → slice_index row k ≡ gain_at r gain (u * unit_length r + k)
  pub open_to : (k : ℕ) → k < length row → track.end ≤ u * unit_length r + k → slice_index row k ≡ gain_of gain.default_mix_gain

-- a row has the gains of the ticks of unit u
abbrev pub HasGains : Rendition → MixGainFields → ℕ → List ℕ → Type 0
HasGains r gain u row = (k : ℕ) → k < length row → slice_index row k ≡ gain_at r gain (u * unit_length r + k)

-- the next block of a track is one of the gain, with this timing and these subblocks
abbrev pub IsNext : Rendition → MixGainFields → GainTrack → GainBlock → Type 0
IsNext r gain track block = blocks_from r gain track.unit track.block ≡ (track.unit, block) ∷ blocks_from r gain track.unit (track.block + 1)
