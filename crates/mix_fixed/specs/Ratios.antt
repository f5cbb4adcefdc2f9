-- Fractions by their parts of 2^64, which the private functions multiply by in place of a division.
use Rattle.std.specs.Prelude.{ℕ, ◌^◌, ◌<◌, ◌≡◌, ℤ, pos, ◌+ℤ◌, ◌-ℤ◌, ◌*ℤ◌}

-- what times / bottom is above 1 (or below it, where it is less), in parts of 2^64 and rounded up
abbrev pub IsRatio : ℕ → ℕ → ℤ → Type 0
IsRatio times bottom part = (d : ℕ) × (d < bottom) × (part *ℤ pos bottom ≡ (pos times -ℤ pos bottom) *ℤ pos (2 ^ 64) +ℤ pos d)
