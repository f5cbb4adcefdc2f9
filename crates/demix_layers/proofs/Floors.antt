-- Floors of fractions: only one number is the floor, and it comes in two steps.
use Rattle.std.proofs.Common.{◌≡◌, ℕ, ◌*◌, ◌-◌, ◌^◌, ◌<◌, ℤ, pos, negsuc, neg_ℤ, ◌≤◌, ◌+ℤ◌, ◌*ℤ◌, ◌≤ℤ◌, ◌<ℤ◌, unsigned_abs, arith, ap}
use Rattle.std.proofs.lemmas.Int.{ints}
use Rattle.std.specs.Int.{int_div_euclid, int_rem_euclid}
use Rattle.std.proofs.lemmas.Int.{by_lt_z}
use borrow.Author.Differences.{up, down, product_is}
use Rattle.spec_demix.specs.Floor.{floor_of}
use Rattle.spec_demix.proofs.FloorLemmas.{floor-low, floor-high, distribute, negated, mul-ordered}

-- the remainder
pub floor-rest : (z : ℤ) (n : ℕ) → 0 < n → floor_of z n *ℤ pos n +ℤ int_rem_euclid z (pos n) ≡ z
floor-rest (pos a) n h = omega (arith, ints)
floor-rest (negsuc a) n h = omega (arith, ints)

-- a product of a product
pub reassociate : (a b c : ℤ) → (a *ℤ b) *ℤ c ≡ a *ℤ (b *ℤ c)
reassociate a b c =
    let left = product_is a b in
    let right = product_is b c in
    let p = ap (λ x. x * up c) left.0 in
    let q = ap (λ x. x * up c) left.1 in
    let r = ap (λ x. x * down c) left.0 in
    let s = ap (λ x. x * down c) left.1 in
    let t = ap (λ x. up a * x) right.0 in
    let u = ap (λ x. up a * x) right.1 in
    let v = ap (λ x. down a * x) right.0 in
    let w = ap (λ x. down a * x) right.1 in
    omega (arith, ints)

-- two numbers are equal where neither is below the other
pub int_ordered : (a b : ℤ) → (a <ℤ b → ⊥) → (b <ℤ a → ⊥) → a ≡ b
int_ordered a b l h = by_lt_z a b (λ x. absurd (l x)) (λ x. by_lt_z b a (λ y. absurd (h y)) (λ y. omega (arith, ints)))

-- the rest is not negative, and below n
pub rest-low : (z : ℤ) (n : ℕ) → pos 0 ≤ℤ int_rem_euclid z (pos n)
rest-low (pos a) n = omega (arith, ints)
rest-low (negsuc a) n = omega (arith, ints)

pub rest-high : (z : ℤ) (n : ℕ) → 0 < n → int_rem_euclid z (pos n) <ℤ pos n
rest-high (pos a) n h = omega (arith, ints)
rest-high (negsuc a) n h = omega (arith, ints)

-- no other number lies there
pub floor_only : (z q : ℤ) (n : ℕ) → (q *ℤ pos n) ≤ℤ z → z <ℤ (q *ℤ pos n +ℤ pos n) → floor_of z n ≡ q
floor_only z q n l h =
    let some : 0 < n = grind (arith, ints) in
    let fl = floor-low z n some in
    let fh = floor-high z n some in
    int_ordered _ _
    (λ below. absurd (let m = mul-ordered (floor_of z n +ℤ pos 1) q n (omega (arith, ints)) in let d = distribute (floor_of z n) (pos 1) (pos n) in omega (arith, ints)))
    (λ above. absurd (let m = mul-ordered (q +ℤ pos 1) (floor_of z n) n (omega (arith, ints)) in let d = distribute q (pos 1) (pos n) in omega (arith, ints)))

-- the floor of the rest's units
pub part-bounds : (r : ℤ) (n : ℕ) → pos 0 ≤ℤ r → r <ℤ pos n → (pos 0 ≤ℤ floor_of (r *ℤ pos (2 ^ 28)) n) × (floor_of (r *ℤ pos (2 ^ 28)) n <ℤ pos (2 ^ 28))
part-bounds r n low high =
    let some : 0 < n = grind (arith, ints) in
    let q = floor_of (r *ℤ pos (2 ^ 28)) n in
    let l = floor-low (r *ℤ pos (2 ^ 28)) n some in
    let h = floor-high (r *ℤ pos (2 ^ 28)) n some in (
      by_lt_z q (pos 0) (λ x. absurd (let m = mul-ordered (q +ℤ pos 1) (pos 0) n (omega (arith, ints)) in let d = distribute q (pos 1) (pos n) in omega (arith, ints))) (λ x. x),
      by_lt_z q (pos (2 ^ 28)) (λ x. x) (λ x. absurd (let m = mul-ordered (pos (2 ^ 28)) q n x in omega (arith, ints))),
    )

-- the floor in two steps
pub units_whole : (t w r q : ℤ) (n : ℕ) → 0 < n → w ≡ floor_of t n → r ≡ int_rem_euclid t (pos n) → q ≡ floor_of (r *ℤ pos (2 ^ 28)) n
    → floor_of (t *ℤ pos (2 ^ 28)) n ≡ w *ℤ pos (2 ^ 28) +ℤ q
units_whole t w r q n some wis ris qis =
    let whole = floor-rest t n some in
    let l = floor-low (r *ℤ pos (2 ^ 28)) n some in
    let h = floor-high (r *ℤ pos (2 ^ 28)) n some in
    let whole' : w *ℤ pos n +ℤ r ≡ t = cc in
    let l' : (q *ℤ pos n) ≤ℤ (r *ℤ pos (2 ^ 28)) = rw qis l in
    let h' : (r *ℤ pos (2 ^ 28)) <ℤ (q *ℤ pos n +ℤ pos n) = rw qis h in
    let d = distribute (w *ℤ pos (2 ^ 28)) q (pos n) in
    let e = reassociate w (pos (2 ^ 28)) (pos n) in
    let f = distribute (w *ℤ pos n) r (pos (2 ^ 28)) in
    let g = ap (λ x. x *ℤ pos (2 ^ 28)) whole' in
    floor_only (t *ℤ pos (2 ^ 28)) (w *ℤ pos (2 ^ 28) +ℤ q) n (omega (arith, ints)) (omega (arith, ints))

-- the same over a bottom above zero, with the two parts' bounds
pub units_split : (t b w r q : ℤ) → pos 0 <ℤ b → w ≡ int_div_euclid t b → r ≡ int_rem_euclid t b → q ≡ floor_of (r *ℤ pos (2 ^ 28)) (unsigned_abs b)
    → (floor_of (t *ℤ pos (2 ^ 28)) (unsigned_abs b) ≡ w *ℤ pos (2 ^ 28) +ℤ q) × (pos 0 ≤ℤ q) × (q <ℤ pos (2 ^ 28)) × ((w *ℤ b) ≤ℤ t) × (t <ℤ (w *ℤ b +ℤ b))
units_split t (pos n) w r q some wis ris qis =
    let some' : 0 < n = omega (arith, ints) in
    let low : pos 0 ≤ℤ r = rw ris (rest-low t n) in
    let high : r <ℤ pos n = rw ris (rest-high t n some') in
    let bounds = part-bounds r n low high in
    (units_whole t w r q n some' wis ris qis, rw qis bounds.0, rw qis bounds.1, rw wis (floor-low t n some'), rw wis (floor-high t n some'))
units_split t (negsuc n) w r q some wis ris qis = absurd (omega (arith, ints))

-- how large the floor of a value below 2^39 is
pub whole_small : (t b w : ℤ) → pos 0 <ℤ b → w ≡ int_div_euclid t b → unsigned_abs t < 2 ^ 39 * unsigned_abs b → (w <ℤ pos (2 ^ 39)) × (pos 0 ≤ℤ (w +ℤ pos (2 ^ 39)))
whole_small t (pos n) w some wis small =
    let some' : 0 < n = omega (arith, ints) in
    let l : (w *ℤ pos n) ≤ℤ t = rw wis (floor-low t n some') in
    let h : t <ℤ (w *ℤ pos n +ℤ pos n) = rw wis (floor-high t n some') in (
      by_lt_z w (pos (2 ^ 39)) (λ x. x) (λ x. absurd (let m = mul-ordered (pos (2 ^ 39)) w n x in omega (arith, ints))),
      by_lt_z (w +ℤ pos (2 ^ 39)) (pos 0) (λ x. absurd (let m = mul-ordered (w +ℤ pos 1) (negsuc (2 ^ 39 - 1)) n (omega (arith, ints)) in let d = distribute w (pos 1) (pos n) in omega (arith, ints))) (λ x. x),
    )
whole_small t (negsuc n) w some wis small = absurd (omega (arith, ints))

-- the floor's units are at most as many as the value's
pub floor_most : (t : ℤ) (m n : ℕ) → 0 < m → unsigned_abs t ≤ n * m → unsigned_abs (floor_of (t *ℤ pos (2 ^ 28)) m) ≤ n * 2 ^ 28
floor_most t m n some most =
    let q = floor_of (t *ℤ pos (2 ^ 28)) m in
    let low = floor-low (t *ℤ pos (2 ^ 28)) m some in
    let high = floor-high (t *ℤ pos (2 ^ 28)) m some in
    let bound = neg_ℤ (pos (n * 2 ^ 28)) in
    by_lt_z (pos (n * 2 ^ 28)) q
    (λ above. absurd (let o = mul-ordered (pos (n * 2 ^ 28) +ℤ pos 1) q m (omega (arith, ints)) in let d = distribute (pos (n * 2 ^ 28)) (pos 1) (pos m) in omega (arith, ints)))
    (λ few. by_lt_z q bound
    (λ below. absurd (let o = mul-ordered (q +ℤ pos 1) bound m (omega (arith, ints)) in let d = distribute q (pos 1) (pos m) in let e = negated (pos (n * 2 ^ 28)) (pos m) in omega (arith, ints)))
    (λ many. omega (arith, ints)))
