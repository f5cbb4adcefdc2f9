-- The number that the first bytes of a list are, byte by byte.
use Rattle.std.proofs.Common.{arith, ◌≡◌, ℕ, ◌+◌, ◌*◌, ◌^◌, ◌<◌, ◌≤◌, List, [], ◌∷◌, ◌++◌, length, get_or, take, refl, inl, inr, ap, subst, ◌∙◌}
use Rattle.std.proofs.lemmas.Bool.{cases_lt}
use Rattle.std.proofs.lemmas.List.{append-nil, length-take-le, take_more}
use Rattle.std.proofs.lemmas.Nat.{pow_below}
use Rattle.spec_bits.specs.Bits.{Bits, number_of, bits_of, all_bits}
use Rattle.spec_bits.proofs.BitsLaws.{length-bits_of, number_of-bound, number_of-bits_of, all_bits-append, length-all_bits}
use Rattle.spec_bits.proofs.JoinLaws.{number_of-append}

-- one byte more
pub number_more : (xs : List ℕ) (i : ℕ) → i < length xs → get_or xs i 0 < 256 → number_of (all_bits (take (i + 1) xs)) ≡ number_of (all_bits (take i xs)) * 256 + get_or xs i 0
unfolding all_bits
number_more xs i lt small =
    let one : all_bits (get_or xs i 0 ∷ []) ≡ bits_of 8 (get_or xs i 0) = append-nil (bits_of 8 (get_or xs i 0)) in
    ap (λ (ys : List ℕ). number_of (all_bits ys)) (take_more xs i 0 lt)
    ∙ ap number_of (all_bits-append (take i xs) (get_or xs i 0 ∷ []) ∙ ap (λ (b : Bits). all_bits (take i xs) ++ b) one)
    ∙ number_of-append (all_bits (take i xs)) (bits_of 8 (get_or xs i 0))
    ∙ rw (length-bits_of 8 (get_or xs i 0), number_of-bits_of 8 (get_or xs i 0) small) refl

pub number_below : (xs : List ℕ) (i : ℕ) → i < 8 → i ≤ length xs → number_of (all_bits (take i xs)) < 2 ^ 56
number_below xs i lt le =
    let e : length (all_bits (take i xs)) ≡ 8 * i = length-all_bits (take i xs) ∙ ap (λ (k : ℕ). 8 * k) (length-take-le i xs le) in
    let small : number_of (all_bits (take i xs)) < 2 ^ (8 * i) = subst (λ (k : ℕ). number_of (all_bits (take i xs)) < 2 ^ k) e (number_of-bound (all_bits (take i xs))) in
    elim (cases_lt (8 * i) 56) [
      | inl below ↦ omega (arith, small, pow_below (8 * i) 56 below)
      | inr above ↦ let same : 8 * i ≡ 56 = omega arith in subst (λ (k : ℕ). number_of (all_bits (take i xs)) < 2 ^ k) same small
    ]
