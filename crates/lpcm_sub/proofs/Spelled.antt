-- The numbers that two, three and four bytes spell, in both orders.
use Rattle.std.proofs.Common.{◌≡◌, ℕ, ◌+◌, ◌*◌, ◌^◌, ◌<◌, List, [], ◌∷◌, length, get_or, reverse, refl, ap, ◌∙◌, arith}
use Rattle.spec_bits.specs.Bits.{number_of, bits_of, all_bits}
use Rattle.spec_bits.proofs.BitsLaws.{number_of-bits_of, length-all_bits}
use Rattle.spec_bits.proofs.JoinLaws.{number_of-append}

-- the first byte is the most significant
number_of-cons : (x : ℕ) (xs : List ℕ) → x < 256 → number_of (all_bits (x ∷ xs)) ≡ x * 2 ^ (8 * length xs) + number_of (all_bits xs)
unfolding all_bits
number_of-cons x xs small = number_of-append (bits_of 8 x) (all_bits xs) ∙ rw (number_of-bits_of 8 x small, length-all_bits xs) refl

number_of-nil : number_of (all_bits []) ≡ 0
unfolding all_bits number_of
number_of-nil = refl

number_2 : (a b : ℕ) → a < 256 → b < 256 → number_of (all_bits (a ∷ b ∷ [])) ≡ a * 256 + b
number_2 a b p q = omega (arith, number_of-cons a (b ∷ []) p, number_of-cons b [] q, number_of-nil)

number_3 : (a b c : ℕ) → a < 256 → b < 256 → c < 256 → number_of (all_bits (a ∷ b ∷ c ∷ [])) ≡ a * 65536 + b * 256 + c
number_3 a b c p q r = omega (arith, number_of-cons a (b ∷ c ∷ []) p, number_2 b c q r)

number_4 : (a b c d : ℕ) → a < 256 → b < 256 → c < 256 → d < 256 → number_of (all_bits (a ∷ b ∷ c ∷ d ∷ [])) ≡ a * 16777216 + b * 65536 + c * 256 + d
number_4 a b c d p q r s = omega (arith, number_of-cons a (b ∷ c ∷ d ∷ []) p, number_3 b c d q r s)

-- ---- in both orders

list_2 : (xs : List ℕ) → length xs ≡ 2 → xs ≡ get_or xs 0 0 ∷ get_or xs 1 0 ∷ []
list_2 (a ∷ b ∷ []) e = refl
list_2 _ e = absurd (omega arith)

list_3 : (xs : List ℕ) → length xs ≡ 3 → xs ≡ get_or xs 0 0 ∷ get_or xs 1 0 ∷ get_or xs 2 0 ∷ []
list_3 (a ∷ b ∷ c ∷ []) e = refl
list_3 _ e = absurd (omega arith)

list_4 : (xs : List ℕ) → length xs ≡ 4 → xs ≡ get_or xs 0 0 ∷ get_or xs 1 0 ∷ get_or xs 2 0 ∷ get_or xs 3 0 ∷ []
list_4 (a ∷ b ∷ c ∷ d ∷ []) e = refl
list_4 _ e = absurd (omega arith)

pub most_2 : (xs : List ℕ) → length xs ≡ 2 → ((i : ℕ) → get_or xs i 0 < 256) → number_of (all_bits xs) ≡ get_or xs 0 0 * 256 + get_or xs 1 0
most_2 xs e small = ap (λ (ys : List ℕ). number_of (all_bits ys)) (list_2 xs e) ∙ number_2 _ _ (small 0) (small 1)

pub least_2 : (xs : List ℕ) → length xs ≡ 2 → ((i : ℕ) → get_or xs i 0 < 256) → number_of (all_bits (reverse xs)) ≡ get_or xs 1 0 * 256 + get_or xs 0 0
least_2 xs e small = ap (λ (ys : List ℕ). number_of (all_bits (reverse ys))) (list_2 xs e) ∙ number_2 _ _ (small 1) (small 0)

pub most_3 : (xs : List ℕ) → length xs ≡ 3 → ((i : ℕ) → get_or xs i 0 < 256) → number_of (all_bits xs) ≡ get_or xs 0 0 * 65536 + get_or xs 1 0 * 256 + get_or xs 2 0
most_3 xs e small = ap (λ (ys : List ℕ). number_of (all_bits ys)) (list_3 xs e) ∙ number_3 _ _ _ (small 0) (small 1) (small 2)

pub least_3 : (xs : List ℕ) → length xs ≡ 3 → ((i : ℕ) → get_or xs i 0 < 256) → number_of (all_bits (reverse xs)) ≡ get_or xs 2 0 * 65536 + get_or xs 1 0 * 256 + get_or xs 0 0
least_3 xs e small = ap (λ (ys : List ℕ). number_of (all_bits (reverse ys))) (list_3 xs e) ∙ number_3 _ _ _ (small 2) (small 1) (small 0)

pub most_4 : (xs : List ℕ) → length xs ≡ 4 → ((i : ℕ) → get_or xs i 0 < 256)
    → number_of (all_bits xs) ≡ get_or xs 0 0 * 16777216 + get_or xs 1 0 * 65536 + get_or xs 2 0 * 256 + get_or xs 3 0
most_4 xs e small = ap (λ (ys : List ℕ). number_of (all_bits ys)) (list_4 xs e) ∙ number_4 _ _ _ _ (small 0) (small 1) (small 2) (small 3)

pub least_4 : (xs : List ℕ) → length xs ≡ 4 → ((i : ℕ) → get_or xs i 0 < 256)
    → number_of (all_bits (reverse xs)) ≡ get_or xs 3 0 * 16777216 + get_or xs 2 0 * 65536 + get_or xs 1 0 * 256 + get_or xs 0 0
least_4 xs e small = ap (λ (ys : List ℕ). number_of (all_bits (reverse ys))) (list_4 xs e) ∙ number_4 _ _ _ _ (small 3) (small 2) (small 1) (small 0)
