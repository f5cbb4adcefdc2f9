-- How large gains are: each table's numbers are tested one by one.
use Rattle.std.proofs.Common.{arith, ◌≡◌, ◌<◌, ◌≤◌, ℕ, zero, suc, ◌*◌, ◌/◌, ◌+◌, ◌^◌, Bool, true, false, ◌&&◌, nat_lt, refl, slice_index, pos, negsuc, ℤ, ◌+ℤ◌, ◌*ℤ◌, ◌≤ℤ◌, ◌<ℤ◌, ◌%◌, unsigned_abs}
use Rattle.std.proofs.Math.Nat.{mul-le-mul}
use Rattle.std.proofs.Math.Logic.{⊎_elim}
use Rattle.std.proofs.lemmas.Bool.{cases_lt}
use Rattle.std.proofs.lemmas.Bool.Decides.{nat_tests}
use Rattle.std.proofs.lemmas.Int.{ints}
use Rattle.std.proofs.Math.Nat.{div-le_self}
use Rattle.std.specs.Int.{int_div_euclid, int_rem_euclid}
use Rattle.spec_gains.specs.Gains.{scaled, shifted, gain_of, coarse_of, low_of, high_of}

pub scaled_most : (x y a b : ℕ) → x ≤ a → y ≤ b → scaled x y ≤ scaled a b
scaled_most x y a b h k = let m = mul-le-mul h k in omega arith

and_left : (a b : Bool) → (a && b) ≡ true → a ≡ true
and_left true b e = refl
and_left false b e = e

and_right : (a b : Bool) → (a && b) ≡ true → b ≡ true
and_right true b e = e
and_right false b e = cc

-- a test of every number below n
abbrev every : ℕ → (ℕ → Bool) → Bool
every zero p = true
every (suc n) p = p n && every n p

every_is : (n : ℕ) (p : ℕ → Bool) → every n p ≡ true → (k : ℕ) → k < n → p k ≡ true
every_is zero p e k h = absurd (omega arith)
every_is (suc n) p e k h =
    ⊎_elim (λ low. every_is n p (and_right (p n) (every n p) e) k low) (λ high. let same : k ≡ n = omega arith in rw same (and_left (p n) (every n p) e)) (cases_lt k n)

-- the coarse numbers rise
pub coarse_rises : (r : ℕ) → r < 19 → coarse_of r < coarse_of (r + 1)
coarse_rises r h = let t = every_is 19 (λ k. nat_lt (coarse_of k) (coarse_of (k + 1))) refl r h in grind (arith, nat_tests)

-- a gain of at most 8192 is at most that of 8192
coarse_most : (r : ℕ) → r < 20 → coarse_of r ≤ 8912509381337
coarse_most r h = let t = every_is 20 (λ k. nat_lt (coarse_of k) 8912509381338) refl r h in grind (arith, nat_tests)

coarse_low : (r : ℕ) → r < 12 → coarse_of r ≤ 3548133892335
coarse_low r h = let t = every_is 12 (λ k. nat_lt (coarse_of k) 3548133892336) refl r h in grind (arith, nat_tests)

-- no part of a gain is above the last of its table
high_most : (h : ℕ) → h < 16 → high_of h ≤ 1113973859936
high_most h k = let t = every_is 16 (λ k. nat_lt (high_of k) 1113973859937) refl h k in grind (arith, nat_tests)

low_most : (l : ℕ) → l < 16 → low_of l ≤ 1006768659290
low_most l k = let t = every_is 16 (λ k. nat_lt (low_of k) 1006768659291) refl l k in grind (arith, nat_tests)

fine_most : (b : ℕ) → b < 256 → scaled (high_of (b / 16)) (low_of (b % 16)) ≤ 1121514000000
fine_most b h =
    let m = scaled_most (high_of (b / 16)) (low_of (b % 16)) 1113973859936 1006768659290 (high_most (b / 16) (omega arith)) (low_most (b % 16) (omega arith)) in
    let n : scaled 1113973859936 1006768659290 ≤ 1121514000000 = omega arith in
    omega (arith, m, n)

all_most : (r b : ℕ) → r < 20 → b < 256 → scaled (coarse_of r) (scaled (high_of (b / 16)) (low_of (b % 16))) ≤ 9996000000000
all_most r b h k =
    let m = scaled_most (coarse_of r) (scaled (high_of (b / 16)) (low_of (b % 16))) 8912509381337 1121514000000 (coarse_most r h) (fine_most b k) in
    let n : scaled 8912509381337 1121514000000 ≤ 9996000000000 = omega arith in
    omega (arith, m, n)

low_ones : (r b : ℕ) → r < 12 → b < 256 → scaled (coarse_of r) (scaled (high_of (b / 16)) (low_of (b % 16))) ≤ 3981071705534
low_ones r b h k =
    let m = scaled_most (coarse_of r) (scaled (high_of (b / 16)) (low_of (b % 16))) 3548133892335 1121514000000 (coarse_low r h) (fine_most b k) in
    let n : scaled 3548133892335 1121514000000 ≤ 3981071705534 = omega arith in
    omega (arith, m, n)

last_one : (r b : ℕ) → r ≡ 12 → b ≡ 0 → scaled (coarse_of r) (scaled (high_of (b / 16)) (low_of (b % 16))) ≤ 3981071705534
last_one r b e f = rw (e, f) (omega arith)

at_e : (whole : ℤ) (r b : ℕ) (e : ℤ) → e *ℤ pos 20 +ℤ pos r ≡ whole → whole ≤ℤ pos 32 → (whole ≡ pos 32 → b ≡ 0) → r < 20 → b < 256
    → shifted (scaled (coarse_of r) (scaled (high_of (b / 16)) (low_of (b % 16)))) e ≤ 39810717055340
at_e whole r b (pos zero) s m z h k = let a = all_most r b h k in omega (arith, a)
at_e whole r b (pos (suc zero)) s m z h k =
    ⊎_elim
    (λ low. let a = low_ones r b low k in omega (arith, a))
    (λ high. let e : r ≡ 12 = omega (arith, ints) in let w : whole ≡ pos 32 = omega (arith, ints) in let a = last_one r b e (z w) in omega (arith, a))
    (cases_lt r 12)
at_e whole r b (pos (suc (suc e))) s m z h k = absurd (omega (arith, ints))
at_e whole r b (negsuc e) s m z h k = let a = all_most r b h k in let d = div-le_self (scaled (coarse_of r) (scaled (high_of (b / 16)) (low_of (b % 16)))) (10 ^ suc e) in omega (arith, a, d)

parts : (z : ℤ) (n : ℕ) → 0 < n → (int_div_euclid z (pos n) *ℤ pos n +ℤ pos (unsigned_abs (int_rem_euclid z (pos n))) ≡ z) × (unsigned_abs (int_rem_euclid z (pos n)) < n)
parts (pos a) n h = (omega (arith, ints), omega (arith, ints))
parts (negsuc a) n h = (omega (arith, ints), omega (arith, ints))

pub gain_most : (g : ℤ) → g ≤ℤ pos 8192 → gain_of g ≤ 39810717055340
gain_most g h =
    let p = parts g 256 (omega arith) in
    let whole = int_div_euclid g (pos 256) in
    let q = parts whole 20 (omega arith) in
    let b = unsigned_abs (int_rem_euclid g (pos 256)) in
    at_e whole (unsigned_abs (int_rem_euclid whole (pos 20))) b (int_div_euclid whole (pos 20)) q.0 (whole_most g whole b p.0 h) (whole_last g whole b p.0 h) q.1 p.1
  where
    whole_most : (g whole : ℤ) (b : ℕ) → whole *ℤ pos 256 +ℤ pos b ≡ g → g ≤ℤ pos 8192 → whole ≤ℤ pos 32
    whole_most g whole b e h = omega (arith, ints)

    whole_last : (g whole : ℤ) (b : ℕ) → whole *ℤ pos 256 +ℤ pos b ≡ g → g ≤ℤ pos 8192 → whole ≡ pos 32 → b ≡ 0
    whole_last g whole b e h w = omega (arith, ints)
