-- Ranges of bytes.
use Rattle.std.specs.Prelude.{◌≡◌, ◌+◌, ◌<◌, ◌≤◌, ℕ, List, [], ◌∷◌, map, slice_range}
use Rattle.std.specs.Borrow.{Bor}

-- The lists are ranges of the bytes, in order, of which the first begins at or after a place, and another place is past them all.
-- None is empty, and no two touch.
abbrev pub AreRanges : List ℕ → ℕ → List (List ℕ) → ℕ → Type 0
AreRanges bytes from [] past = from ≤ past
AreRanges bytes from (xs ∷ rest) past = (start : ℕ) × (end : ℕ) × (from ≤ start) × (start < end) × (xs ≡ slice_range bytes start end) × AreRanges bytes (end + 1) rest past

-- the bytes of each slice
abbrev pub parts : List (Bor (List ℕ)) → List (List ℕ)
parts slices = map (λ (slice : Bor (List ℕ)). slice.now) slices
