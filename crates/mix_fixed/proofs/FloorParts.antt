-- Floors of numbers that are taken as whole bottoms and a rest.
use Rattle.std.proofs.Common.{arith, ◌≡◌, ◌<◌, ◌≤◌, ℕ, ℤ, pos, ◌+ℤ◌, ◌-ℤ◌, ◌*ℤ◌, ◌^◌, ◌+◌, ◌*◌, ◌/◌, unsigned_abs, FitsSigned, ap, sym, ◌∙◌}
use Rattle.std.proofs.lemmas.Int.{ints, unsigned_abs-mul}
use Rattle.std.proofs.Math.Nat.{mul-le-mul}
use Rattle.std.proofs.Math.IntN.{*ℤ_comm}
use Rattle.spec_demix.specs.Floor.{floor_of}
use Rattle.spec_demix.proofs.FloorLemmas.{floor-low, floor-high, distribute, distribute_minus, spread}
use Rattle.demix_layers.proofs.Floors.{floor_only, reassociate}
use Rattle.std.specs.Int.{w64}
use Rattle.mix_fixed.specs.Quiet.{hundredth}

-- whole bottoms come out of a floor
pub floor_more : (q t : ℤ) (n : ℕ) → 0 < n → floor_of (q *ℤ pos n +ℤ t) n ≡ q +ℤ floor_of t n
floor_more q t n some =
    let l = floor-low t n some in
    let h = floor-high t n some in
    let d = distribute q (floor_of t n) (pos n) in
    floor_only (q *ℤ pos n +ℤ t) (q +ℤ floor_of t n) n (omega (arith, ints)) (omega (arith, ints))

-- a number of whole bottoms and a rest, times k
pub times_split : (k : ℕ) (x q r : ℤ) (n : ℕ) → q *ℤ pos n +ℤ r ≡ x → pos k *ℤ x ≡ (pos k *ℤ q) *ℤ pos n +ℤ pos k *ℤ r
times_split k x q r n e =
    let a = *ℤ_comm (pos k) x in
    let d = distribute (q *ℤ pos n) r (pos k) in
    let b = *ℤ_comm (pos k) (q *ℤ pos n) in
    let c = reassociate (pos k) q (pos n) in
    let f = *ℤ_comm (pos k) r in
    rw (← e) (*ℤ_comm (pos k) (q *ℤ pos n +ℤ r) ∙ d ∙ omega (arith, ints, b, c, f))

pub over_split : (k : ℕ) (x q : ℤ) (r n : ℕ) → 0 < n → q *ℤ pos n +ℤ pos r ≡ x → floor_of (pos k *ℤ x) n ≡ pos k *ℤ q +ℤ pos (k * r / n)
over_split k x q r n some e = rw (times_split k x q (pos r) n e) (floor_more (pos k *ℤ q) (pos k *ℤ pos r) n some)

-- the difference of a number in thousandths and a part of another, where the part is the whole of it
pub behind_one : (k : ℕ) (x part : ℤ) (n : ℕ) → k ≡ 1000 → floor_of (pos 1000 *ℤ x -ℤ pos k *ℤ part) n ≡ floor_of (pos 1000 *ℤ (x -ℤ part)) n
behind_one k x part n e = rw e (ap (λ t. floor_of t n) (sym (spread 1000 x part)))

-- and where it is as many as the bottom
pub behind_same : (k : ℕ) (x part : ℤ) (n : ℕ) → k ≡ n → 0 < n → floor_of (pos 1000 *ℤ x) n -ℤ part ≡ floor_of (pos 1000 *ℤ x -ℤ pos k *ℤ part) n
behind_same k x part n e some =
    let d = distribute_minus (pos 0) part (pos n) in
    let m = *ℤ_comm part (pos n) in
    let t : (pos 0 -ℤ part) *ℤ pos n +ℤ pos 1000 *ℤ x ≡ pos 1000 *ℤ x -ℤ pos n *ℤ part = omega (arith, ints, d, m) in
    let f : floor_of (pos 1000 *ℤ x -ℤ pos n *ℤ part) n ≡ (pos 0 -ℤ part) +ℤ floor_of (pos 1000 *ℤ x) n = ap (λ s. floor_of s n) (sym t) ∙ floor_more (pos 0 -ℤ part) (pos 1000 *ℤ x) n some in
    rw e (omega (arith, ints, f))

-- times a coefficient
pub times_small : (k : ℕ) (q : ℤ) (m : ℕ) → k ≤ 1000 → unsigned_abs q * 707 ≤ m → unsigned_abs (pos k *ℤ q) * 707 ≤ 1000 * m
times_small k q m few h =
    let e : unsigned_abs (pos k *ℤ q) ≡ k * unsigned_abs q = unsigned_abs-mul (pos k) q in
    let l : k * unsigned_abs q ≤ 1000 * unsigned_abs q = mul-le-mul few (omega arith) in
    omega (arith, e, l, h)

-- a rest over its bottom
pub rest_small : (a n : ℕ) → 0 < n → a / n ≤ a
rest_small a n some = omega arith

-- one whole bottom is left to the rest
pub one_less : (x q r : ℤ) (n : ℕ) → q *ℤ pos n +ℤ r ≡ x → (q -ℤ pos 1) *ℤ pos n +ℤ (r +ℤ pos n) ≡ x
one_less x q r n e = let d = distribute_minus q (pos 1) (pos n) in omega (arith, ints, d, e)

-- how large a quotient is
pub split_quotient : (x q r : ℤ) (n : ℕ) → 707 ≤ n → q *ℤ pos n +ℤ r ≡ x → unsigned_abs r < n → unsigned_abs x < 2 ^ 63 → unsigned_abs q * 707 ≤ unsigned_abs x + n
split_quotient x q r n least e few small =
    let m : unsigned_abs (q *ℤ pos n) ≡ unsigned_abs q * n = unsigned_abs-mul q (pos n) in
    let k : unsigned_abs q * 707 ≤ unsigned_abs q * n = mul-le-mul (omega arith) least in
    omega (arith, ints, m, k, e, few)

-- what the parts of a quotient give fits 64 bits
pub over_fits : (k : ℕ) (x q : ℤ) (r n : ℕ) → k ≤ 1000 → 707 ≤ n → unsigned_abs q * 707 ≤ unsigned_abs x + 2000 → r ≤ 2000 → unsigned_abs x ≤ 840 * hundredth
    → FitsSigned w64 (pos k *ℤ q) × FitsSigned w64 (pos k *ℤ q +ℤ pos (k * r / n))
over_fits k x q r n few least near rest small =
    let m : unsigned_abs (pos k *ℤ q) * 707 ≤ 1000 * (unsigned_abs x + 2000) = times_small k q (unsigned_abs x + 2000) few near in
    let t : k * r ≤ 1000 * 2000 = mul-le-mul few rest in
    let d = rest_small (k * r) n (omega (arith, least)) in
    (omega (arith, ints, m, small), omega (arith, ints, m, d, t, small))
