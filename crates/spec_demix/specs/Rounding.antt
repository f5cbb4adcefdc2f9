-- The last rounding of a sample.
use Rattle.std.specs.Prelude.{ℕ, ◌-◌, ◌^◌, ℤ, pos, neg_ℤ, ◌+ℤ◌, ◌-ℤ◌}
use Rattle.std.specs.Int.{int_max, int_min}
use Rattle.spec_demix.specs.Floor.{floor_of}

-- a value in units to the nearest whole number, halves upwards
abbrev pub rounded : ℤ → ℤ
rounded z = floor_of (z +ℤ pos (2 ^ 27)) (2 ^ 28)

-- the number nearest to z among the signed samples of a depth
abbrev pub clipped : ℕ → ℤ → ℤ
clipped depth z = int_max (neg_ℤ (pos (2 ^ (depth - 1)))) (int_min z (pos (2 ^ (depth - 1)) -ℤ pos 1))
