-- Numbers as 64 bits hold them, and their differences.
use Rattle.std.proofs.Common.{arith, ◌≡◌, ◌≤◌, ◌+◌, ℕ, ℤ, ◌-ℤ◌, FitsSigned, to_z, of_z}
use Rattle.std.specs.Int.{w64}
use Rattle.std.proofs.lemmas.Int.{ints, to_z-of_z}
use Rattle.mix_fixed.specs.Quiet.{hundredth}
use Rattle.mix_fixed.specs.Within.{AtMost}

abbrev pub held : ℤ → ℤ
held x = to_z w64 (of_z w64 x)

pub held_is : (a : ℕ) (x : ℤ) → a ≤ 1599 → AtMost hundredth a x → held x ≡ x
held_is a x few h = let f : FitsSigned w64 x = omega (arith, ints) in to_z-of_z w64 x f

pub less_fits : (a b : ℕ) (x y : ℤ) → a + b ≤ 1599 → AtMost hundredth a x → AtMost hundredth b y → FitsSigned w64 (held x -ℤ held y)
less_fits a b x y few h k = rw (held_is a x (omega arith) h, held_is b y (omega arith) k) (omega (arith, ints))

pub less_is : (a b : ℕ) (x y : ℤ) → a + b ≤ 1599 → AtMost hundredth a x → AtMost hundredth b y → held (held x -ℤ held y) ≡ x -ℤ y
less_is a b x y few h k = rw (held_is a x (omega arith) h, held_is b y (omega arith) k) (held_is (a + b) (x -ℤ y) few (omega (arith, ints)))
