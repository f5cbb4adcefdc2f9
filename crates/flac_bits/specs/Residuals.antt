-- A residual out of its folded number.
use Rattle.std.specs.Prelude.{◌≡◌, ℕ, ◌^◌, ◌<◌, ℤ, true, false, Option, Some, None, unsigned_abs}
use Rattle.spec_flac.specs.Residual.{unfolded, is_large}

-- the number that a folded one stands for, where it is small enough
abbrev pub IsUnfolded : Option ℤ → ℕ → Type 0
IsUnfolded (Some z) u = (is_large (unfolded u) ≡ false) × (z ≡ unfolded u) × (unsigned_abs z < 2 ^ 31)
IsUnfolded None u = is_large (unfolded u) ≡ true
