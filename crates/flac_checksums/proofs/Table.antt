-- The table of a byte's remainders, and one byte of a checksum.
use Rattle.std.proofs.Common.{◌≡◌, ℕ, zero, suc, ◌+◌, ◌*◌, ◌/◌, ◌%◌, ◌^◌, ◌<◌, Bool, true, false, not, [], ◌∷◌, ◌++◌, length, length-append, refl, sym, ap, ◌∙◌, arith, inl, inr, bit_xor}
use Rattle.std.specs.Prelude.{slice_index}
use Rattle.std.proofs.lemmas.Bool.{cases_lt}
use Rattle.std.proofs.lemmas.Nat.{xor_lt}
use Rattle.flac_checksums.specs.declared.frame_checksum.TheConstants.{TABLE_16}
use Rattle.spec_bits.specs.Bits.{Bits, zeros, bits_of}
use Rattle.spec_checksums.specs.Polynomials.{differ, ◌⊕◌, poly_16, steps}
use Rattle.spec_bits.proofs.BitsLaws.{length-bits_of, length-zeros}
use Rattle.spec_checksums.proofs.Sums.{sum_append, sum_zeros, sum_self, sum_comm, sum_assoc, zeros_sum, length-sum}
use Rattle.spec_checksums.proofs.Division.{steps_sum, steps_same}
use Rattle.flac_checksums.proofs.Bytes.{bits_xor, bits_split}

unfoldable pub and : Bool → Bool → Bool
and true b = b
and false b = false

pub left : (a b : Bool) → and a b ≡ true → a ≡ true
unfolding and
left true b e = refl
left false b e = cc

pub right : (a b : Bool) → and a b ≡ true → b ≡ true
unfolding and
right true b e = e
right false b e = cc

unfoldable pub same_bits : Bits → Bits → Bool
same_bits [] [] = true
same_bits [] (y ∷ ys) = false
same_bits (x ∷ xs) [] = false
same_bits (x ∷ xs) (y ∷ ys) = and (not (differ x y)) (same_bits xs ys)

same_bit : (x y : Bool) → not (differ x y) ≡ true → x ≡ y
same_bit true true e = refl
same_bit true false e = cc
same_bit false true e = cc
same_bit false false e = refl

pub same_is : (xs ys : Bits) → same_bits xs ys ≡ true → xs ≡ ys
unfolding same_bits and
same_is [] [] e = refl
same_is [] (y ∷ ys) e = cc
same_is (x ∷ xs) [] e = cc
same_is (x ∷ xs) (y ∷ ys) e =
    let f = same_bit x y (left (not (differ x y)) (same_bits xs ys) e) in
    let g = same_is xs ys (right (not (differ x y)) (same_bits xs ys) e) in
    cc

unfoldable pub below : ℕ → (ℕ → Bool) → Bool
below zero p = true
below (suc n) p = and (p n) (below n p)

pub below_is : (n : ℕ) (p : ℕ → Bool) → below n p ≡ true → (k : ℕ) → k < n → p k ≡ true
unfolding below
below_is zero p e k lt = absurd (omega arith)
below_is (suc n) p e k lt = elim (cases_lt k n) [
  | inl small ↦ below_is n p (right (p n) (below n p) e) k small
  | inr large ↦ let same : k ≡ n = omega arith in rw same (left (p n) (below n p) e)
]

entry_test : ℕ → Bool
entry_test i = same_bits (bits_of 16 (slice_index TABLE_16 i)) (steps (bits_of 16 0x8005) (bits_of 8 i ++ zeros 8) (zeros 8))

all_entries : below 256 entry_test ≡ true
unfolding below entry_test same_bits and bits_of
all_entries = refl

entry_is : (i : ℕ) → i < 256 → bits_of 16 (slice_index TABLE_16 i) ≡ steps poly_16 (bits_of 8 i ++ zeros 8) (zeros 8)
unfolding entry_test poly_16
entry_is i lt = same_is _ _ (below_is 256 entry_test all_entries i lt)

wide : length poly_16 ≡ 16
unfolding poly_16
wide = length-bits_of 16 0x8005

-- a register of 16 bits takes 8 more
pub byte_step : (crc byte t : ℕ) → crc < 2 ^ 16 → byte < 2 ^ 8 → t < 2 ^ 16 → t ≡ slice_index TABLE_16 (bit_xor (crc / 256) byte)
    → bits_of 16 (bit_xor (crc % 256 * 256) t) ≡ steps poly_16 (bits_of 16 crc) (bits_of 8 byte)
unfolding bits_of
byte_step crc byte t fits small fits_t is =
    let h = crc / 256 in
    let l = crc % 256 in
    let x = bit_xor h byte in
    let hb = bits_of 8 h in
    let lb = bits_of 8 l in
    let bb = bits_of 8 byte in
    let z = zeros 8 in
    let h_small : h < 2 ^ 8 = omega arith in
    let l_small : l < 2 ^ 8 = omega arith in
    let x_small : x < 2 ^ 8 = xor_lt 8 h byte h_small small in
    let crc_is : crc ≡ h * 2 ^ 8 + l = omega arith in
    let crc_bits : bits_of 16 crc ≡ hb ++ lb = ap (bits_of 16) crc_is ∙ bits_split 8 8 h l h_small l_small in
    let up_is : l * 256 ≡ l * 2 ^ 8 + 0 = omega arith in
    let up_bits : bits_of 16 (l * 256) ≡ lb ++ z = ap (bits_of 16) up_is ∙ bits_split 8 8 l 0 l_small (omega arith) in
    let x_bits : bits_of 8 x ≡ hb ⊕ bb = bits_xor 8 h byte h_small small in
    let t_bits : bits_of 16 t ≡ steps poly_16 ((hb ⊕ bb) ++ z) z = ap (bits_of 16) is ∙ entry_is x x_small ∙ ap (λ (b : Bits). steps poly_16 (b ++ z) z) x_bits in
    let whole : bits_of 16 (bit_xor (l * 256) t) ≡ (lb ++ z) ⊕ steps poly_16 ((hb ⊕ bb) ++ z) z =
    bits_xor 16 (l * 256) t (omega arith) fits_t ∙ ap (λ (b : Bits). b ⊕ bits_of 16 t) up_bits ∙ ap (λ (b : Bits). (lb ++ z) ⊕ b) t_bits in
    let len_h : length hb ≡ 8 = length-bits_of 8 h in
    let len_l : length lb ≡ 8 = length-bits_of 8 l in
    let len_b : length bb ≡ 8 = length-bits_of 8 byte in
    let len_hb : length (hb ⊕ bb) ≡ 8 = length-sum hb bb (omega arith) ∙ len_b in
    let first : steps poly_16 (bb ++ lb) bb ≡ lb ++ z = steps_same poly_16 bb lb (omega (arith, wide)) ∙ ap (λ (n : ℕ). lb ++ zeros n) len_b in
    let back : bb ⊕ (hb ⊕ bb) ≡ hb = ap (λ (r : Bits). bb ⊕ r) (sum_comm hb bb) ∙ sym (sum_assoc bb bb hb) ∙ ap (λ (r : Bits). r ⊕ hb) (sum_self bb) ∙ zeros_sum (length bb) hb (omega arith) in
    let register : (bb ++ lb) ⊕ ((hb ⊕ bb) ++ z) ≡ hb ++ lb = sum_append bb (hb ⊕ bb) lb z (omega arith) ∙ ap (λ (r : Bits). r ++ (lb ⊕ z)) back ∙ ap (λ (r : Bits). hb ++ r) (sum_zeros lb 8 (omega arith)) in
    let linear = steps_sum poly_16 (bb ++ lb) ((hb ⊕ bb) ++ z) bb z (omega (arith, length-append bb lb, wide)) (omega (arith, length-append (hb ⊕ bb) z, length-zeros 8, wide)) (omega (arith, length-zeros 8)) in
    whole ∙ ap (λ (r : Bits). r ⊕ steps poly_16 ((hb ⊕ bb) ++ z) z) (sym first) ∙ sym linear ∙ ap (λ (r : Bits). steps poly_16 r (bb ⊕ z)) register ∙ ap (λ (r : Bits). steps poly_16 r (bb ⊕ z)) (sym crc_bits) ∙ ap (λ (r : Bits). steps poly_16 (bits_of 16 crc) r) (sum_zeros bb 8 (omega arith))
