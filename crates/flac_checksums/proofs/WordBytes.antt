-- The bits of a word and of its bytes.
use Rattle.std.proofs.Common.{◌≡◌, ℕ, zero, suc, ◌+◌, ◌*◌, ◌^◌, ◌<◌, ◌≤◌, List, [], ◌∷◌, ◌++◌, length, get_or, take, drop, refl, sym, ap, ◌∙◌, arith}
use Rattle.std.specs.Int.{w64, from_be_bytes, to_be_bytes}
use Rattle.std.proofs.lemmas.List.{append-nil, drop_more}
use Rattle.std.proofs.lemmas.Nat.{from_be_bytes-to_be_bytes_8}
use Rattle.spec_bits.specs.Bits.{Bits, bits_of, all_bits}
use Rattle.flac_checksums.proofs.Bytes.{bits_split}

split : (k a b n : ℕ) → a < 256 → b < 2 ^ k → n ≡ a * 2 ^ k + b → bits_of (8 + k) n ≡ bits_of 8 a ++ bits_of k b
split k a b n la lb e = ap (bits_of (8 + k)) e ∙ bits_split 8 k a b la lb

pub eight_bytes : (a b c d e f g h : ℕ) → a < 256 → b < 256 → c < 256 → d < 256 → e < 256 → f < 256 → g < 256 → h < 256
    → bits_of 64 (from_be_bytes w64 (a ∷ b ∷ c ∷ d ∷ e ∷ f ∷ g ∷ h ∷ [])) ≡ all_bits (a ∷ b ∷ c ∷ d ∷ e ∷ f ∷ g ∷ h ∷ [])
unfolding all_bits
eight_bytes a b c d e f g h la lb lc ld le lf lg lh =
    let n6 = g * 2 ^ 8 + h in
    let n5 = f * 2 ^ 16 + n6 in
    let n4 = e * 2 ^ 24 + n5 in
    let n3 = d * 2 ^ 32 + n4 in
    let n2 = c * 2 ^ 40 + n3 in
    let n1 = b * 2 ^ 48 + n2 in
    let n0 = a * 2 ^ 56 + n1 in
    let is : from_be_bytes w64 (a ∷ b ∷ c ∷ d ∷ e ∷ f ∷ g ∷ h ∷ []) ≡ n0 = omega arith in
    ap (bits_of 64) is
    ∙ split 56 a n1 n0 la (omega arith) refl ∙ ap (λ (z : Bits). bits_of 8 a ++ z) (split 48 b n2 n1 lb (omega arith) refl
    ∙ ap (λ (z : Bits). bits_of 8 b ++ z) (split 40 c n3 n2 lc (omega arith) refl
    ∙ ap (λ (z : Bits). bits_of 8 c ++ z) (split 32 d n4 n3 ld (omega arith) refl
    ∙ ap (λ (z : Bits). bits_of 8 d ++ z) (split 24 e n5 n4 le (omega arith) refl
    ∙ ap (λ (z : Bits). bits_of 8 e ++ z) (split 16 f n6 n5 lf (omega arith) refl
    ∙ ap (λ (z : Bits). bits_of 8 f ++ z) (split 8 g h n6 lg (omega arith) refl
    ∙ ap (λ (z : Bits). bits_of 8 g ++ z) (sym (append-nil (bits_of 8 h)))))))))

abbrev listed : ℕ → List ℕ → ℕ → ℕ → List ℕ
listed zero xs at n = []
listed (suc k) xs at n = get_or xs (at + n) 0 ∷ listed k xs at (suc n)

taken : (k : ℕ) (xs : List ℕ) (at n : ℕ) → at + n + k ≤ length xs → take k (drop (at + n) xs) ≡ listed k xs at n
taken zero xs at n le = refl
taken (suc k) xs at n le =
    let next : at + n + 1 ≡ at + suc n = omega arith in
    ap (take (suc k)) (drop_more xs (at + n) 0 (omega arith)) ∙ ap (λ (ys : List ℕ). get_or xs (at + n) 0 ∷ ys) (ap (λ (m : ℕ). take k (drop m xs)) next ∙ taken k xs at (suc n) (omega arith))

pub eight_taken : (xs : List ℕ) (at : ℕ) → at + 8 ≤ length xs
    → take 8 (drop at xs) ≡ get_or xs at 0 ∷ get_or xs (at + 1) 0 ∷ get_or xs (at + 2) 0 ∷ get_or xs (at + 3) 0 ∷ get_or xs (at + 4) 0 ∷ get_or xs (at + 5) 0 ∷ get_or xs (at + 6) 0 ∷ get_or xs (at + 7) 0 ∷ []
eight_taken xs at le =
    let none : at ≡ at + 0 = omega arith in
    ap (λ (m : ℕ). take 8 (drop m xs)) none ∙ taken 8 xs at 0 (omega arith) ∙ ap (λ (m : ℕ). get_or xs m 0 ∷ listed 7 xs at 1) (sym none)

-- the bytes of a word
pub bytes_of_word : (n : ℕ) → n < 2 ^ 64 → all_bits (to_be_bytes w64 n) ≡ bits_of 64 n
bytes_of_word n lt = sym (eight_bytes _ _ _ _ _ _ _ _ (omega arith) (omega arith) (omega arith) (omega arith) (omega arith) (omega arith) (omega arith) (omega arith)) ∙ ap (bits_of 64) (from_be_bytes-to_be_bytes_8 n lt)
