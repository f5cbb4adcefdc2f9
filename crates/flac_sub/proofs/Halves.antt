-- The right out of middle and side, by half of the side.
use Rattle.std.proofs.Common.{◌≡◌, ℤ, pos, negsuc, ◌+ℤ◌, ◌-ℤ◌, ◌*ℤ◌, ◌≤ℤ◌, arith}
use Rattle.std.proofs.lemmas.Int.{ints}
use Rattle.std.specs.Int.{int_div_euclid}
use Rattle.spec_flac.specs.Frame.{middle}

below : (z : ℤ) → (pos 2 *ℤ int_div_euclid z (pos 2)) ≤ℤ z
below (pos n) = omega (arith, ints)
below (negsuc n) = omega (arith, ints)

above : (z : ℤ) → z ≤ℤ ((pos 2 *ℤ int_div_euclid z (pos 2)) +ℤ pos 1)
above (pos n) = omega (arith, ints)
above (negsuc n) = omega (arith, ints)

pub right_is : (a b : ℤ) → int_div_euclid (middle a b +ℤ b) (pos 2) -ℤ b ≡ int_div_euclid (middle a b -ℤ b) (pos 2)
right_is a b = omega (arith, ints, below (middle a b +ℤ b), above (middle a b +ℤ b), below (middle a b -ℤ b), above (middle a b -ℤ b))
