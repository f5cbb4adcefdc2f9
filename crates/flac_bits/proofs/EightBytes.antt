-- Eight bytes as one number.
use Rattle.std.proofs.Common.{◌≡◌, ℕ, zero, suc, ◌+◌, ◌-◌, ◌*◌, ◌^◌, ◌<◌, ◌≤◌, List, [], ◌∷◌, ◌++◌, length, get_or, take, drop, refl, sym, ap, ◌∙◌, arith, add-one}
use Rattle.std.specs.Int.{w64, from_be_bytes}
use Rattle.std.proofs.Math.Nat.{pow-suc}
use Rattle.std.proofs.lemmas.Nat.{pow-add}
use Rattle.std.proofs.lemmas.List.{take-append-drop, length-take-le, length-drop, drop_more, take_at}
use Rattle.spec_bits.specs.Bits.{Bits, number_of, bits_of, all_bits}
use Rattle.spec_bits.proofs.BitsLaws.{number_of-bits_of, all_bits-append, length-all_bits, drop-all_bits}
use Rattle.spec_bits.proofs.JoinLaws.{number_of-append}

-- so many bytes from a place, the first on top
through : ℕ → List ℕ → ℕ → ℕ
through zero xs at = 0
through (suc k) xs at = get_or xs at 0 * 256 ^ k + through k xs (suc at)

one_more : (x : ℕ) (bytes : List ℕ) → x < 256 → number_of (all_bits (x ∷ bytes)) ≡ x * 256 ^ length bytes + number_of (all_bits bytes)
unfolding all_bits
one_more x bytes small =
    number_of-append (bits_of 8 x) (all_bits bytes) ∙ rw (number_of-bits_of 8 x small, length-all_bits bytes) (ap (λ (p : ℕ). x * p + number_of (all_bits bytes)) (power (length bytes)))
  where
    power : (n : ℕ) → 2 ^ (8 * n) ≡ 256 ^ n
    power zero = refl
    power (suc n) = let e : 8 * suc n ≡ 8 + 8 * n = omega arith in rw e (omega (arith, pow-add 2 8 (8 * n), pow-suc 256 n, power n))

these : (k : ℕ) (xs : List ℕ) (at : ℕ) → at + k ≤ length xs → ((i : ℕ) → get_or xs i 0 < 256) → number_of (all_bits (take k (drop at xs))) ≡ through k xs at
unfolding all_bits number_of through
these zero xs at le small = refl
these (suc k) xs at le small =
    rw (drop_more xs at 0 (omega arith), add-one)
    (one_more (get_or xs at 0) (take k (drop (suc at) xs)) (small at)
    ∙ rw (length-take-le k (drop (suc at) xs) (omega (arith, length-drop (suc at) xs))) (ap (λ (n : ℕ). get_or xs at 0 * 256 ^ k + n) (these k xs (suc at) (omega arith) small)))

pub front_bits : (k : ℕ) (xs : List ℕ) → k ≤ length xs → take (8 * k) (all_bits xs) ≡ all_bits (take k xs)
front_bits k xs le =
    let split : all_bits xs ≡ all_bits (take k xs) ++ all_bits (drop k xs) = ap all_bits (sym (take-append-drop k xs)) ∙ all_bits-append (take k xs) (drop k xs) in
    let len : length (all_bits (take k xs)) ≡ 8 * k = length-all_bits (take k xs) ∙ ap (λ (n : ℕ). 8 * n) (length-take-le k xs le) in
    ap (take (8 * k)) split ∙ take_at (all_bits (take k xs)) (all_bits (drop k xs)) (8 * k) len

pub eight : (xs : List ℕ) (at : ℕ) → at + 8 ≤ length xs → ((i : ℕ) → get_or xs i 0 < 256)
    → from_be_bytes w64 (get_or xs at 0 ∷ get_or xs (at + 1) 0 ∷ get_or xs (at + 2) 0 ∷ get_or xs (at + 3) 0 ∷ get_or xs (at + 4) 0 ∷ get_or xs (at + 5) 0 ∷ get_or xs (at + 6) 0 ∷ get_or xs (at + 7) 0 ∷ [])
    ≡ number_of (take 64 (drop (8 * at) (all_bits xs))) * 2 ^ (64 - 64)
unfolding through
eight xs at le small =
    let n = number_of (take 64 (drop (8 * at) (all_bits xs))) in
    let value : n ≡ through 8 xs at = ap (λ (b : Bits). number_of (take 64 b)) (drop-all_bits at xs) ∙ ap number_of (front_bits 8 (drop at xs) (omega (arith, length-drop at xs))) ∙ these 8 xs at le small in
    let e1 : get_or xs (suc at) 0 ≡ get_or xs (at + 1) 0 = ap (λ (k : ℕ). get_or xs k 0) (omega arith) in
    let e2 : get_or xs (suc (suc at)) 0 ≡ get_or xs (at + 2) 0 = ap (λ (k : ℕ). get_or xs k 0) (omega arith) in
    let e3 : get_or xs (suc (suc (suc at))) 0 ≡ get_or xs (at + 3) 0 = ap (λ (k : ℕ). get_or xs k 0) (omega arith) in
    let e4 : get_or xs (suc (suc (suc (suc at)))) 0 ≡ get_or xs (at + 4) 0 = ap (λ (k : ℕ). get_or xs k 0) (omega arith) in
    let e5 : get_or xs (suc (suc (suc (suc (suc at))))) 0 ≡ get_or xs (at + 5) 0 = ap (λ (k : ℕ). get_or xs k 0) (omega arith) in
    let e6 : get_or xs (suc (suc (suc (suc (suc (suc at)))))) 0 ≡ get_or xs (at + 6) 0 = ap (λ (k : ℕ). get_or xs k 0) (omega arith) in
    let e7 : get_or xs (suc (suc (suc (suc (suc (suc (suc at))))))) 0 ≡ get_or xs (at + 7) 0 = ap (λ (k : ℕ). get_or xs k 0) (omega arith) in
    omega (arith, value)
