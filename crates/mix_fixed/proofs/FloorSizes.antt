-- How large floors of fractions are.
use Rattle.std.proofs.Common.{arith, ◌≡◌, ◌<◌, ◌≤◌, ℕ, ℤ, pos, ◌-ℤ◌, ◌*ℤ◌, ◌+◌, ◌*◌, unsigned_abs}
use Rattle.std.proofs.lemmas.Int.{ints, unsigned_abs-mul}
use Rattle.std.proofs.Math.Nat.{mul-le-mul}
use Rattle.spec_demix.specs.Floor.{floor_of}
use Rattle.spec_demix.proofs.FloorLemmas.{floor-low, floor-high}
use Rattle.mix_fixed.specs.Within.{AtMost}

-- a floor's distance from 0, times the bottom
floor_far : (z : ℤ) (n : ℕ) → 0 < n → unsigned_abs (floor_of z n) * n ≤ unsigned_abs z + n
floor_far z n h =
    let l = floor-low z n h in
    let k = floor-high z n h in
    let e : unsigned_abs (floor_of z n *ℤ pos n) ≡ unsigned_abs (floor_of z n) * n = unsigned_abs-mul (floor_of z n) (pos n) in
    rw (← e) (omega (arith, ints))

-- so it is small, where the bottom is at least 707
pub over_least : (z : ℤ) (n a m : ℕ) → 707 ≤ n → unsigned_abs z ≤ a → n ≤ 1000 → a + 1000 < 707 * (m + 1) → unsigned_abs (floor_of z n) ≤ m
over_least z n a m least h most room =
    let f = floor_far z n (omega arith) in
    let q = unsigned_abs (floor_of z n) in
    bounded q n a m least most (omega (arith, f, h)) room
  where
    bounded : (q n a m : ℕ) → 707 ≤ n → n ≤ 1000 → q * n ≤ a + n → a + 1000 < 707 * (m + 1) → q ≤ m
    bounded q n a m least most f room = let k : q * 707 ≤ q * n = mul-le-mul (omega arith) least in omega (arith, k, f)

pub unmixed_most : (m : ℕ) (whole part : ℤ) (n : ℕ) → 1 ≤ m → 707 ≤ n → n ≤ 866 → AtMost m 422 whole → AtMost m 100 part → AtMost m 740 (floor_of (pos 1000 *ℤ (whole -ℤ part)) n)
unmixed_most m whole part n some least most w p =
    over_least (pos 1000 *ℤ (whole -ℤ part)) n (522000 * m) (740 * m) least (omega (arith, ints)) (omega arith) (omega arith)

pub over_most : (m : ℕ) (x : ℤ) (n : ℕ) → 1 ≤ m → 707 ≤ n → n ≤ 1000 → AtMost m 740 x → AtMost m 1048 (floor_of (pos 1000 *ℤ x) n)
over_most m x n some least most h = over_least (pos 1000 *ℤ x) n (740000 * m) (1048 * m) least (omega (arith, ints)) most (omega arith)

pub behind_most : (m : ℕ) (surround side : ℤ) (n : ℕ) → 1 ≤ m → 707 ≤ n → n ≤ 1000 → AtMost m 740 surround → AtMost m 100000 side → AtMost m 1190 (floor_of (pos 1000 *ℤ surround -ℤ side) n)
behind_most m surround side n some least most w p =
    over_least (pos 1000 *ℤ surround -ℤ side) n (840000 * m) (1190 * m) least (omega (arith, ints)) most (omega arith)

pub share_most : (m weight : ℕ) (surround : ℤ) → 1 ≤ m → weight ≤ 5000 * 866 → AtMost m 740 surround → AtMost m 321 (floor_of (pos weight *ℤ surround) 10000000)
share_most m weight surround some few s =
    let p : unsigned_abs (pos weight *ℤ surround) ≤ (5000 * 866) * (740 * m) = rw unsigned_abs-mul (mul-le-mul few s) in
    let l = floor-low (pos weight *ℤ surround) 10000000 (omega arith) in
    let h = floor-high (pos weight *ℤ surround) 10000000 (omega arith) in
    omega (arith, ints)
