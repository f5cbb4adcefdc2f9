-- The zeros on top of a word.
use Rattle.std.proofs.Common.{◌≡◌, ℕ, zero, suc, ◌+◌, ◌-◌, ◌*◌, ◌/◌, ◌^◌, ◌<◌, ◌≤◌, true, false, [], ◌∷◌, length, take, drop, refl, sym, ap, subst, ◌∙◌, arith, add-one, Option, Some, None, inl, inr}
use Rattle.std.proofs.Common.{◌⊎◌}
use Rattle.std.proofs.lemmas.List.{length-take-le, drop-drop, drop_all}
use Rattle.std.proofs.Math.Nat.{pow-suc, mul-le-mul_right}
use Rattle.std.proofs.lemmas.Nat.{pow-add, pow_pos, shl_below, shr_below, shr-shr, le-div}
use Rattle.std.specs.Int.Count.{count_leading_zeros, leading_unique, leading_of_zero}
use Rattle.spec_bits.specs.Bits.{Bits, number_of}
use Rattle.flac_bits.specs.Ones.{first_one, more}
use Rattle.flac_bits.specs.Windows.{IsTop}
use Rattle.flac_bits.proofs.TopBits.{front_below, front_split, on_top}

-- The first m bits are zeros, or have their first one at z, with j bits after it.
pub record HasOne (m : ℕ) (bits : Bits) : Type 0 where
  pub place : ℕ
  pub others : ℕ
  pub parts : place + suc others ≡ m
  pub first : first_one bits ≡ Some place
  pub large : 2 ^ others ≤ number_of (take m bits)
  pub small : number_of (take m bits) < 2 ^ suc others

pub ones : (bits : Bits) (m : ℕ) → m ≤ length bits → HasOne m bits ⊎ (number_of (take m bits) ≡ 0)
unfolding number_of
ones bits zero le = inr refl
ones [] (suc m) le = absurd (omega arith)
ones (true ∷ bits) (suc m) le =
    let len : length (take m bits) ≡ m = length-take-le m bits (omega arith) in
    let below : number_of (take m bits) < 2 ^ m = front_below bits m (omega arith) in
    inl (record { place = 0; others = m; parts = omega arith; first = refl; large = rw len (omega arith); small = rw len (omega (arith, pow-suc 2 m)) })
ones (false ∷ bits) (suc m) le = elim (ones bits m (omega arith)) [
  | inl h ↦ inl (record { place = suc h.place; others = h.others; parts = omega (arith, h.parts); first = rw h.first refl; large = omega (arith, h.large); small = omega (arith, h.small) })
  | inr h ↦ inr (omega (arith, h))
]

some_same : (a b : ℕ) → a ≡ b → Some a ≡ Some b
some_same a b e = ap (λ (n : ℕ). Some n) e

pub counted_at : (word m : ℕ) (bits : Bits) → IsTop word m bits → (h : HasOne m bits) → h.place ≡ count_leading_zeros 64 word
counted_at word m bits top h =
    let few : m ≤ 64 = top.few in
    let e = 64 - m in
    let j = suc h.others in
    let n = number_of (take m bits) in
    let value : word ≡ n * 2 ^ e = top.value in
    let up : 2 ^ h.others * 2 ^ e ≤ n * 2 ^ e = mul-le-mul_right (2 ^ e) h.large in
    let down : n * 2 ^ e < 2 ^ (j + e) = shl_below n j e h.small in
    let two : 2 ^ (j + e) ≡ 2 * (2 ^ h.others * 2 ^ e) = pow-add 2 j e ∙ ap (λ (k : ℕ). k * 2 ^ e) (pow-suc 2 h.others) ∙ omega arith in
    let parts : h.place + j ≡ m = h.parts in
    leading_unique 64 word h.place (j + e) (omega arith) (rw value down) (omega arith)

pub counted : (word m z : ℕ) (bits : Bits) → IsTop word m bits → z ≡ count_leading_zeros 64 word → z < m → first_one bits ≡ Some z
counted word m z bits top is lt =
    let few : m ≤ 64 = top.few in
    elim (ones bits m top.inside) [
      | inl h ↦ h.first ∙ some_same h.place z (counted_at word m bits top h ∙ sym is)
      | inr h ↦
          let none : word ≡ 0 = top.value ∙ ap (λ (k : ℕ). k * 2 ^ (64 - m)) h ∙ omega arith in
          absurd (omega (arith, leading_of_zero 64, is ∙ ap (λ (w : ℕ). count_leading_zeros 64 w) none))
    ]

pub no_ones : (word m : ℕ) (bits : Bits) → IsTop word m bits → m ≤ count_leading_zeros 64 word → number_of (take m bits) ≡ 0
no_ones word m bits top le = elim (ones bits m top.inside) [
  | inl h ↦
      absurd (omega (arith, h.parts, counted_at word m bits top h))
  | inr h ↦ h
]

abbrev pub plus : ℕ → Option ℕ → Option ℕ
plus m None = None
plus m (Some z) = Some (m + z)

more_plus : (m : ℕ) (r : Option ℕ) → more (plus m r) ≡ plus (suc m) r
more_plus m None = refl
more_plus m (Some z) = some_same (suc (m + z)) (suc m + z) (omega arith)

pub passed : (m : ℕ) (bits : Bits) → m ≤ length bits → number_of (take m bits) ≡ 0 → first_one bits ≡ plus m (first_one (drop m bits))
unfolding number_of
passed zero bits le none = same (first_one bits)
  where
    same : (r : Option ℕ) → r ≡ plus 0 r
    same None = refl
    same (Some z) = some_same z (0 + z) (omega arith)
passed (suc m) [] le none = absurd (omega arith)
passed (suc m) (true ∷ bits) le none = absurd (omega (arith, none, pow_pos (length (take m bits))))
passed (suc m) (false ∷ bits) le none = ap more (passed m bits (omega arith) (omega (arith, none))) ∙ more_plus m (first_one (drop m bits))

plus_plus : (a b c : ℕ) (r : Option ℕ) → c ≡ a + b → plus a (plus b r) ≡ plus c r
plus_plus a b c None e = refl
plus_plus a b c (Some z) e = some_same (a + (b + z)) (c + z) (omega arith)

pub goes_on : (start place count : ℕ) (bits : Bits) → start ≤ place → first_one (drop start bits) ≡ plus (place - start) (first_one (drop place bits)) → count ≤ length (drop place bits) → number_of (take count (drop place bits)) ≡ 0
    → first_one (drop start bits) ≡ plus (place + count - start) (first_one (drop (place + count) bits))
goes_on start place count bits le so_far inside none =
    let e : drop count (drop place bits) ≡ drop (place + count) bits = drop-drop count place bits in
    so_far ∙ ap (plus (place - start)) (passed count (drop place bits) inside none ∙ ap (λ (b : Bits). plus count (first_one b)) e) ∙ plus_plus (place - start) count (place + count - start) (first_one (drop (place + count) bits)) (omega arith)

pub at_end : (start place : ℕ) (bits : Bits) → length bits ≤ place → first_one (drop start bits) ≡ plus (place - start) (first_one (drop place bits)) → first_one (drop start bits) ≡ None
at_end start place bits le so_far = so_far ∙ rw (drop_all place bits le) refl

-- the bits up to the first one are the number 1
pub to_one : (bits : Bits) (z : ℕ) → first_one bits ≡ Some z → number_of (take (suc z) bits) ≡ 1
unfolding number_of
to_one [] z e = absurd cc
to_one (true ∷ bits) zero e = refl
to_one (true ∷ bits) (suc z) e = absurd cc
to_one (false ∷ bits) zero e = absurd (no_zero (first_one bits) e)
  where
    no_zero : (r : Option ℕ) → more r ≡ Some 0 → ⊥
    no_zero None e = cc
    no_zero (Some n) e = cc
to_one (false ∷ bits) (suc z) e = omega (arith, to_one bits z (less (first_one bits) e))
  where
    less : (r : Option ℕ) → more r ≡ Some (suc z) → r ≡ Some z
    less None e = absurd cc
    less (Some n) e = cc

-- a shift leaves the first one of a word and the bits after it
pub shifted_to : (word m z k : ℕ) (bits : Bits) → z + 1 + k ≤ m → z + 1 + k < 64 → IsTop word m bits → first_one bits ≡ Some z → word / 2 ^ (63 - (z + k)) ≡ 2 ^ k + number_of (take k (drop (z + 1) bits))
shifted_to word m z k bits le small top one =
    let c = z + 1 + k in
    let places : 1 + (63 - c) ≡ 63 - (z + k) = omega arith in
    let whole : word / 2 ^ (63 - (z + k)) ≡ number_of (take c bits) = ap (λ (j : ℕ). word / 2 ^ j) (sym places) ∙ sym (shr-shr word 1 (63 - c)) ∙ on_top word m c bits le top small in
    let inside : c ≤ length bits = omega (arith, top.inside) in
    let split = front_split bits c (z + 1) inside (omega arith) in
    let rest : c - (z + 1) ≡ k = omega arith in
    let first : number_of (take (z + 1) bits) ≡ 1 = rw add-one (to_one bits z one) in
    whole ∙ split ∙ rw (rest, first) (omega arith)

-- which is at least the one alone, and below the next power
pub shifted_large : (word z k : ℕ) → z + 1 + k < 64 → 2 ^ (64 - z) ≤ 2 * word + 1 → 2 ^ k ≤ word / 2 ^ (63 - (z + k))
shifted_large word z k small large =
    let s = 63 - (z + k) in
    let places : 1 + (k + s) ≡ 64 - z = omega arith in
    let p : 2 ^ (64 - z) ≡ 2 * (2 ^ k * 2 ^ s) = ap (λ (j : ℕ). 2 ^ j) (sym places) ∙ pow-add 2 1 (k + s) ∙ ap (λ (n : ℕ). 2 * n) (pow-add 2 k s) in
    le-div (2 ^ k) word (2 ^ s) (pow_pos s) (omega (arith, p, large))

pub shifted_small : (word z k : ℕ) → z + 1 + k < 64 → word < 2 ^ (64 - z) → word / 2 ^ (63 - (z + k)) < 2 * 2 ^ k
shifted_small word z k small below =
    let s = 63 - (z + k) in
    let places : (1 + k) + s ≡ 64 - z = omega arith in
    let lt : word < 2 ^ ((1 + k) + s) = subst (λ (j : ℕ). word < 2 ^ j) (sym places) below in
    let p : 2 ^ (1 + k) ≡ 2 * 2 ^ k = pow-add 2 1 k in
    omega (arith, p, shr_below word (1 + k) s lt)
