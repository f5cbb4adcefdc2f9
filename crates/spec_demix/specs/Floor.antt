-- Rounding down, and the unit of numbers in fixed point.
use Rattle.std.specs.Prelude.{ℕ, ◌^◌, ℤ, pos}
use Rattle.std.specs.Int.{int_div_euclid}

-- the floor of z / n
abbrev pub floor_of : ℤ → ℕ → ℤ
floor_of z n = int_div_euclid z (pos n)

-- so many units make one
abbrev pub unit : ℕ
unit = 2 ^ 28
