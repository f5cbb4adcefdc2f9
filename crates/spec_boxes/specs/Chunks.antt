-- What the tables say of chunks and of the samples in them
-- (ISO/IEC 14496-12, "Sample To Chunk Box", "Sample Size Boxes" and "Chunk Offset Box").
use Rattle.std.specs.Prelude.{◌≡◌, ℕ, ◌+◌, ◌-◌, ◌<◌, ◌≤◌, true, List, [], ◌∷◌, length, get_or, take, drop, sum, nat_le, if◌then◌else◌}
use Rattle.spec_boxes.specs.Tables.{Run, counts_from, rise_after}
use Rattle.spec_boxes.specs.Spans.{Span, spans}

-- the n-th sample of chunk j lies at the chunk's place and the sizes of the chunk's earlier samples, and has its size
abbrev pub before : List ℕ → ℕ → ℕ
before counts j = sum (take j counts)

abbrev pub SamplesLie : Type 0
SamplesLie = (places counts sizes : List ℕ) (j n : ℕ) (none : Span) → length places ≡ length counts → sum counts ≡ length sizes → j < length counts → n < get_or counts j 0
    → get_or (spans places counts sizes) (before counts j + n) none ≡ (get_or places j 0 + sum (take n (drop (before counts j) sizes)), get_or sizes (before counts j + n) 0)

-- the number that the last of the runs that begin at or before a chunk gives it
abbrev pub each_at : ℕ → List Run → ℕ → ℕ
each_at each [] chunk = each
each_at each (r ∷ rs) chunk = if nat_le r.first chunk then each_at r.each rs chunk else each

-- a chunk has as many samples as the last run that begins at or before it says; chunks are counted from 1
abbrev pub ChunksCount : Type 0
ChunksCount = (first each : ℕ) (rs : List Run) (m chunk : ℕ) → rise_after first rs m ≡ true → first ≤ chunk → chunk ≤ m → get_or (counts_from first each rs m) (chunk - first) 0 ≡ each_at each rs chunk
