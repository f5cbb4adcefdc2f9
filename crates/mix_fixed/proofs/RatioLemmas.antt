-- A product with a ratio gives the floor of a fraction, where the number is small enough.
use Rattle.std.proofs.Common.{arith, ◌≡◌, ◌<◌, ◌≤◌, ℕ, zero, suc, ℤ, pos, ◌+ℤ◌, ◌-ℤ◌, ◌*ℤ◌, ◌≤ℤ◌, ◌<ℤ◌, ◌^◌, ◌*◌, unsigned_abs, FitsSigned, ap, ◌∙◌, sym, refl}
use Rattle.std.specs.Int.{w64}
use Rattle.std.proofs.lemmas.Int.{ints, to_z-of_z, unsigned_abs-mul}
use Rattle.std.proofs.Math.Nat.{mul-le-mul, mul-le-mul_right}
use Rattle.std.proofs.Math.IntN.{*ℤ_comm}
use Rattle.spec_demix.specs.Floor.{floor_of}
use Rattle.spec_demix.proofs.FloorLemmas.{floor-low, floor-high, distribute, distribute_minus, swapped, mul-ordered}
use Rattle.demix_layers.proofs.Floors.{reassociate}
use Rattle.mix_fixed.specs.Ratios.{IsRatio}
use Rattle.mix_fixed.proofs.Held.{held}

none_below : (k n : ℕ) → k * n < n → k ≡ 0
none_below zero n h = refl
none_below (suc k) n h = let m : 1 * n ≤ suc k * n = mul-le-mul_right n (omega arith) in absurd (omega (arith, h, m))

-- two numbers whose multiples are nearer than one n are the same
same_multiple : (q p : ℤ) (n : ℕ) → (q *ℤ pos n) <ℤ (p *ℤ pos n +ℤ pos n) → (p *ℤ pos n) <ℤ (q *ℤ pos n +ℤ pos n) → q ≡ p
same_multiple q p n low high =
    let d = distribute_minus q p (pos n) in
    let m : unsigned_abs ((q -ℤ p) *ℤ pos n) ≡ unsigned_abs (q -ℤ p) * n = unsigned_abs-mul (q -ℤ p) (pos n) in
    let none = none_below (unsigned_abs (q -ℤ p)) n (omega (arith, ints, d, m, low, high)) in
    omega (arith, ints, none)

mul-below : (a b : ℤ) (n : ℕ) → 0 < n → a <ℤ b → (a *ℤ pos n) <ℤ (b *ℤ pos n)
mul-below a b n some h =
    let m = mul-ordered (a +ℤ pos 1) b n (omega (arith, ints, h)) in
    let d = distribute a (pos 1) (pos n) in
    omega (arith, ints, m, d, some)

-- the product with the ratio, times the bottom
product_is : (k n : ℕ) (x part : ℤ) (d : ℕ) → part *ℤ pos n ≡ (pos k -ℤ pos n) *ℤ pos (2 ^ 64) +ℤ pos d
    → (x *ℤ part) *ℤ pos n ≡ (pos k *ℤ x -ℤ x *ℤ pos n) *ℤ pos (2 ^ 64) +ℤ x *ℤ pos d
product_is k n x part d e =
    let a = reassociate x part (pos n) in
    let b = ap (λ t. x *ℤ t) e in
    let c = *ℤ_comm x ((pos k -ℤ pos n) *ℤ pos (2 ^ 64) +ℤ pos d) in
    let f = distribute ((pos k -ℤ pos n) *ℤ pos (2 ^ 64)) (pos d) x in
    let g = *ℤ_comm ((pos k -ℤ pos n) *ℤ pos (2 ^ 64)) x in
    let h : x *ℤ ((pos k -ℤ pos n) *ℤ pos (2 ^ 64)) ≡ (x *ℤ (pos k -ℤ pos n)) *ℤ pos (2 ^ 64) = sym (reassociate x (pos k -ℤ pos n) (pos (2 ^ 64))) in
    let i = *ℤ_comm x (pos k -ℤ pos n) in
    let j = distribute_minus (pos k) (pos n) x in
    let l = *ℤ_comm (pos n) x in
    let m = *ℤ_comm (pos d) x in
    let s : x *ℤ (pos k -ℤ pos n) ≡ pos k *ℤ x -ℤ x *ℤ pos n = i ∙ j ∙ ap (λ t. pos k *ℤ x -ℤ t) l in
    a ∙ b ∙ c ∙ f ∙ ap (λ t. t +ℤ pos d *ℤ x) (g ∙ (h ∙ ap (λ t. t *ℤ pos (2 ^ 64)) s)) ∙ ap (λ t. (pos k *ℤ x -ℤ x *ℤ pos n) *ℤ pos (2 ^ 64) +ℤ t) m

-- what lies between the multiples of n, once they are multiplied by n and by 2^64
between : (n : ℕ) (z y t f q v : ℤ) → n ≤ 1000 → 0 < n → q ≤ℤ z → z <ℤ (q +ℤ pos n) → unsigned_abs t ≤ 2 ^ 53 * n
    → v ≡ (z -ℤ y) *ℤ pos (2 ^ 64) +ℤ t +ℤ pos (2 ^ 53 * n) → (f *ℤ pos (2 ^ 64)) ≤ℤ v → v <ℤ (f *ℤ pos (2 ^ 64) +ℤ pos (2 ^ 64 * n))
    → ((y +ℤ f) <ℤ (q +ℤ pos n)) × (q <ℤ (y +ℤ f +ℤ pos n))
between n z y t f q v few some low high small e down up = (omega (arith, ints, few, some, low, high, small, e, down, up), omega (arith, ints, few, some, low, high, small, e, down, up))

pub ratio_floor : (k n : ℕ) (x part : ℤ) → n ≤ 1000 → unsigned_abs x ≤ 2 ^ 53 → IsRatio k n part
    → x +ℤ floor_of (x *ℤ part +ℤ pos (2 ^ 53)) (2 ^ 64) ≡ floor_of (pos k *ℤ x) n
ratio_floor k n x part few small r =
    let d = r.0 in
    let below = r.1 in
    let z = pos k *ℤ x in
    let u = x *ℤ part +ℤ pos (2 ^ 53) in
    let f = floor_of u (2 ^ 64) in
    let q = floor_of z n in
    let some : 0 < n = omega (arith, below) in
    let p = product_is k n x part d (r.2) in
    let m : unsigned_abs (x *ℤ pos d) ≤ 2 ^ 53 * n = let l : unsigned_abs x * d ≤ 2 ^ 53 * n = mul-le-mul small (omega (arith, below)) in rw unsigned_abs-mul l in
    let w = distribute (x *ℤ part) (pos (2 ^ 53)) (pos n) in
    let s = swapped f (2 ^ 64) n in
    let g = distribute (f *ℤ pos (2 ^ 64)) (pos (2 ^ 64)) (pos n) in
    let down = mul-ordered (f *ℤ pos (2 ^ 64)) u n (floor-low u (2 ^ 64) (omega arith)) in
    let up = mul-below u (f *ℤ pos (2 ^ 64) +ℤ pos (2 ^ 64)) n some (floor-high u (2 ^ 64) (omega arith)) in
    let b = between n z (x *ℤ pos n) (x *ℤ pos d) (f *ℤ pos n) (q *ℤ pos n) (u *ℤ pos n) few some (floor-low z n some) (floor-high z n some) m
    (omega (arith, ints, p, w)) (omega (arith, ints, s, down)) (omega (arith, ints, s, g, up)) in
    let a = distribute x f (pos n) in
    same_multiple (x +ℤ f) q n (omega (arith, ints, a, b.0)) (omega (arith, ints, a, b.1))

-- the same, as 64 bits hold it
pub held_ratio_floor : (k n : ℕ) (x part y : ℤ) → n ≤ 1000 → FitsSigned w64 part → FitsSigned w64 y → unsigned_abs x ≤ 2 ^ 53 → IsRatio k n part
    → y ≡ held x +ℤ floor_of (held x *ℤ held part +ℤ pos (2 ^ 53)) (2 ^ 64) → held y ≡ floor_of (pos k *ℤ x) n
held_ratio_floor k n x part y few fp fy small r e =
    let fx : FitsSigned w64 x = omega (arith, ints, small) in
    let f = simp to_z-of_z at e in
    simp to_z-of_z (f ∙ ratio_floor k n x part few small r)

-- how large a product with a ratio is
pub ratio_size : (x part : ℤ) → unsigned_abs x ≤ 2 ^ 53 → unsigned_abs part ≤ 2 ^ 63 → unsigned_abs (x *ℤ part) ≤ 2 ^ 116
ratio_size x part small r = let m : unsigned_abs x * unsigned_abs part ≤ 2 ^ 53 * 2 ^ 63 = mul-le-mul small r in rw unsigned_abs-mul (omega (arith, m))

pub word_size : (z : ℤ) → unsigned_abs z ≤ 2 ^ 116 → unsigned_abs (floor_of (z +ℤ pos (2 ^ 53)) (2 ^ 64)) ≤ 2 ^ 53
word_size z h =
    let l = floor-low (z +ℤ pos (2 ^ 53)) (2 ^ 64) (omega arith) in
    let k = floor-high (z +ℤ pos (2 ^ 53)) (2 ^ 64) (omega arith) in
    omega (arith, ints, l, k, h)
