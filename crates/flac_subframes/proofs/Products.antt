-- Sizes of sums of products.
use Rattle.std.proofs.Common.{ℕ, ◌+◌, ◌^◌, ◌≤◌, ℤ, ◌+ℤ◌, ◌*ℤ◌, unsigned_abs, arith, FitsSigned, w64}
use Rattle.std.proofs.lemmas.Int.{ints, unsigned_abs-mul}
use Rattle.std.proofs.lemmas.Nat.{mul-le}

pub product_small : (a b : ℤ) → unsigned_abs a ≤ 2 ^ 14 → unsigned_abs b ≤ 2 ^ 32 → unsigned_abs (a *ℤ b) ≤ 2 ^ 46
product_small a b p q = omega (arith, unsigned_abs-mul a b, mul-le (unsigned_abs a) (unsigned_abs b) (2 ^ 14) (2 ^ 32) p q)

pub sum_small : (x y : ℤ) (m : ℕ) → unsigned_abs x ≤ m → unsigned_abs y ≤ 2 ^ 46 → unsigned_abs (x +ℤ y) ≤ m + 2 ^ 46
sum_small x y m p q = omega (arith, ints)

pub sum_fits : (x y : ℤ) → unsigned_abs x ≤ 2 ^ 52 → unsigned_abs y ≤ 2 ^ 46 → FitsSigned w64 (x +ℤ y)
sum_fits x y p q = omega (arith, ints)
