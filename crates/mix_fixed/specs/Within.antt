-- How large the numbers of the fixed walk are, which the private functions ask so that none overflows; no definitions of what
-- is meant. Bounds are in hundredths of the largest transmitted channel, n.
use Rattle.std.specs.Prelude.{ℕ, ◌≤◌, ◌*◌, unsigned_abs, ℤ}

abbrev pub AtMost : ℕ → ℕ → ℤ → Type 0
AtMost n k z = unsigned_abs z ≤ k * n
