-- A source and a sink in memory, as their callers see them.
use Rattle.std.specs.Prelude.{ℕ, ◌%◌, ◌≤◌, min, List, [], length, slice_index, if◌then◌else◌, ◌==◌}

-- the bytes that are still to come, the bounds of the reads, the numbers of the reads that fail, the number of
-- the next read, and how many have failed
pub record SourceInMemory : Type 0 where
  pub left : List ℕ
  pub pieces : List ℕ
  pub failing : List ℕ
  pub calls : ℕ
  pub faults : ℕ

-- the bytes that were taken, how many there is room for in all, the most of a write, the numbers of the calls
-- that fail, the number of the next call, and how many have failed
pub record SinkInMemory : Type 0 where
  pub held : List ℕ
  pub room : ℕ
  pub most : ℕ
  pub failing : List ℕ
  pub calls : ℕ
  pub faults : ℕ

-- before its first read
abbrev pub fresh_source : List ℕ → List ℕ → List ℕ → SourceInMemory
fresh_source bytes pieces fails = record { left = bytes; pieces = pieces; failing = fails; calls = 0; faults = 0 }

-- before its first write
abbrev pub fresh_sink : ℕ → ℕ → List ℕ → SinkInMemory
fresh_sink room most fails = record { held = []; room = room; most = most; failing = fails; calls = 0; faults = 0 }

-- at most so many, and at most the piece whose turn it is at the read with this number: the pieces bound the
-- reads in turn, starting over at their end, and no pieces bound nothing
abbrev pub bounded : List ℕ → ℕ → ℕ → ℕ
bounded pieces number most = if length pieces == 0 then most else min (slice_index pieces (number % length pieces)) most

-- there is no room left
abbrev pub IsFull : SinkInMemory → Type 0
IsFull sink = sink.room ≤ length sink.held
