-- Sums of numbers' bits.
use Rattle.std.proofs.Common.{◌≡◌, ℕ, zero, suc, ◌+◌, ◌-◌, ◌*◌, ◌^◌, ◌<◌, ◌≤◌, true, false, leb, ◌∷◌, ◌++◌, refl, ap, arith, inl, inr, bit_xor}
use Rattle.std.proofs.lemmas.Bool.{cases_lt, le-leb, lt-leb}
use Rattle.std.proofs.lemmas.Nat.{xor_block, xor_lt, pow-add}
use Rattle.std.proofs.Math.Nat.{pow-suc, mul-le-mul_right}
use Rattle.spec_bits.specs.Bits.{Bits, bits_of}
use Rattle.spec_checksums.specs.Polynomials.{◌⊕◌}

-- a number of k + 1 bits is its top bit and k bits
pub top_true : (k r : ℕ) → r < 2 ^ k → bits_of (suc k) (1 * 2 ^ k + r) ≡ true ∷ bits_of k r
unfolding bits_of
top_true k r lt = let t : leb (2 ^ k) (1 * 2 ^ k + r) ≡ true = le-leb _ _ (omega arith) in let e : (1 * 2 ^ k + r) - 2 ^ k ≡ r = omega arith in rw (t, e) refl

pub top_false : (k r : ℕ) → r < 2 ^ k → bits_of (suc k) (0 * 2 ^ k + r) ≡ false ∷ bits_of k r
unfolding bits_of
top_false k r lt = let t : leb (2 ^ k) (0 * 2 ^ k + r) ≡ false = lt-leb _ _ (omega arith) in let e : 0 * 2 ^ k + r ≡ r = omega arith in rw (t, e) refl

-- a number below 2 ^ (k + 1) has the form of one of the two
pub record Top (k n : ℕ) : Type 0 where
  pub high : ℕ
  pub low : ℕ
  pub bit : high < 2
  pub below : low < 2 ^ k
  pub is : n ≡ high * 2 ^ k + low

top : (k n : ℕ) → n < 2 ^ suc k → Top k n
top k n lt = elim (cases_lt n (2 ^ k)) [
  | inl small ↦ record { high = 0; low = n; bit = omega arith; below = small; is = omega arith }
  | inr large ↦ record { high = 1; low = n - 2 ^ k; bit = omega arith; below = omega (arith, pow-suc 2 k); is = omega arith }
]

two_tops : (k g l h m : ℕ) → g < 2 → h < 2 → l < 2 ^ k → m < 2 ^ k → bits_of k (bit_xor l m) ≡ bits_of k l ⊕ bits_of k m
    → bits_of (suc k) (bit_xor (g * 2 ^ k + l) (h * 2 ^ k + m)) ≡ bits_of (suc k) (g * 2 ^ k + l) ⊕ bits_of (suc k) (h * 2 ^ k + m)
two_tops k zero l zero m a b lt mt again = rw (xor_block k 0 0 l m lt mt, top_false k l lt, top_false k m mt, top_false k (bit_xor l m) (xor_lt k l m lt mt)) (ap (λ (z : Bits). false ∷ z) again)
two_tops k zero l (suc zero) m a b lt mt again = rw (xor_block k 0 1 l m lt mt, top_false k l lt, top_true k m mt, top_true k (bit_xor l m) (xor_lt k l m lt mt)) (ap (λ (z : Bits). true ∷ z) again)
two_tops k (suc zero) l zero m a b lt mt again = rw (xor_block k 1 0 l m lt mt, top_true k l lt, top_false k m mt, top_true k (bit_xor l m) (xor_lt k l m lt mt)) (ap (λ (z : Bits). true ∷ z) again)
two_tops k (suc zero) l (suc zero) m a b lt mt again = rw (xor_block k 1 1 l m lt mt, top_true k l lt, top_true k m mt, top_false k (bit_xor l m) (xor_lt k l m lt mt)) (ap (λ (z : Bits). false ∷ z) again)
two_tops k (suc (suc g)) l h m a b lt mt again = absurd (omega arith)
two_tops k zero l (suc (suc h)) m a b lt mt again = absurd (omega arith)
two_tops k (suc zero) l (suc (suc h)) m a b lt mt again = absurd (omega arith)

pub bits_xor : (k a b : ℕ) → a < 2 ^ k → b < 2 ^ k → bits_of k (bit_xor a b) ≡ bits_of k a ⊕ bits_of k b
unfolding bits_of
bits_xor zero a b lt mt = refl
bits_xor (suc k) a b lt mt =
    let s = top k a lt in
    let t = top k b mt in
    rw (s.is, t.is) (two_tops k s.high s.low t.high t.low s.bit t.bit s.below t.below (bits_xor k s.low t.low s.below t.below))

one_top : (j k h l b : ℕ) → h < 2 → l < 2 ^ j → b < 2 ^ k → l * 2 ^ k + b < 2 ^ (j + k) → bits_of (j + k) (l * 2 ^ k + b) ≡ bits_of j l ++ bits_of k b
    → bits_of (suc j + k) ((h * 2 ^ j + l) * 2 ^ k + b) ≡ bits_of (suc j) (h * 2 ^ j + l) ++ bits_of k b
one_top j k zero l b small lt bt below again =
    let e : suc j + k ≡ suc (j + k) = omega arith in
    let n : (0 * 2 ^ j + l) * 2 ^ k + b ≡ 0 * 2 ^ (j + k) + (l * 2 ^ k + b) = omega arith in
    rw (e, n, top_false (j + k) (l * 2 ^ k + b) below, top_false j l lt) (ap (λ (z : Bits). false ∷ z) again)
one_top j k (suc zero) l b small lt bt below again =
    let e : suc j + k ≡ suc (j + k) = omega arith in
    let n : (1 * 2 ^ j + l) * 2 ^ k + b ≡ 1 * 2 ^ (j + k) + (l * 2 ^ k + b) = omega (arith, pow-add 2 j k) in
    rw (e, n, top_true (j + k) (l * 2 ^ k + b) below, top_true j l lt) (ap (λ (z : Bits). true ∷ z) again)
one_top j k (suc (suc h)) l b small lt bt below again = absurd (omega arith)

pair_below : (j k l b : ℕ) → l < 2 ^ j → b < 2 ^ k → l * 2 ^ k + b < 2 ^ (j + k)
pair_below j k l b lt bt = let s : (l + 1) * 2 ^ k ≤ 2 ^ j * 2 ^ k = mul-le-mul_right (2 ^ k) (omega arith) in omega (arith, s, pow-add 2 j k)

pub bits_split : (j k a b : ℕ) → a < 2 ^ j → b < 2 ^ k → bits_of (j + k) (a * 2 ^ k + b) ≡ bits_of j a ++ bits_of k b
unfolding bits_of
bits_split zero k a b lt bt = let e : 0 + k ≡ k = omega arith in let z : a ≡ 0 = omega arith in let n : 0 * 2 ^ k + b ≡ b = omega arith in rw (e, z, n) refl
bits_split (suc j) k a b lt bt =
    let s = top j a lt in
    rw (s.is) (one_top j k s.high s.low b s.bit s.below bt (pair_below j k s.low b s.below bt) (bits_split j k s.low b s.below bt))
