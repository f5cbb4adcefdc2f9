-- Blocks of bytes, one after the other.
use Rattle.std.proofs.Common.{◌≡◌, ℕ, ◌+◌, ◌*◌, ◌<◌, List, [], ◌∷◌, ◌++◌, length, get_or, take, drop, refl, sym, ap, ◌∙◌, arith}
use Rattle.std.proofs.lemmas.List.{append-nil, drop-drop, take_more, take-append-drop}
use Rattle.std.proofs.Math.Seq.{take-add}
use Rattle.spec_bits.specs.Bits.{Bits, zeros, bits_of, all_bits}
use Rattle.spec_bits.proofs.BitsLaws.{all_bits-append}
use Rattle.spec_checksums.specs.Polynomials.{poly_16, steps}
use Rattle.spec_checksums.proofs.Division.{steps_append}
use Rattle.flac_checksums.specs.Registers.{register, words_bits}
use Rattle.flac_checksums.proofs.Folding.{register_append, register_zeros, words_bits-append}

-- bytes from a place, the first eight and the others
parted : (xs : List ℕ) (at m n : ℕ) → all_bits (take (m + n) (drop at xs)) ≡ all_bits (take m (drop at xs)) ++ all_bits (take n (drop (at + m) xs))
parted xs at m n =
    ap all_bits (take-add m n (drop at xs) ∙ ap (λ (ys : List ℕ). take m (drop at xs) ++ take n ys) (drop-drop m at xs)) ∙ all_bits-append (take m (drop at xs)) (take n (drop (at + m) xs))

-- four parts of n bytes, one after the other
pub four_parts : (xs : List ℕ) (at n two three four : ℕ) → n + n ≡ two → two + n ≡ three → three + n ≡ four → (r : Bits)
    → steps poly_16 (steps poly_16 (steps poly_16 (steps poly_16 r (all_bits (take n (drop at xs)))) (all_bits (take n (drop (at + n) xs)))) (all_bits (take n (drop (at + two) xs)))) (all_bits (take n (drop (at + three) xs)))
    ≡ steps poly_16 r (all_bits (take four (drop at xs)))
four_parts xs at n two three four e2 e3 e4 r =
    let part : ℕ → Bits = λ (k : ℕ). all_bits (take n (drop (at + k) xs)) in
    let front : ℕ → Bits = λ (k : ℕ). all_bits (take k (drop at xs)) in
    let to_two : front two ≡ front n ++ part n = ap front (sym e2) ∙ parted xs at n n in
    let to_three : front three ≡ front two ++ part two = ap front (sym e3) ∙ parted xs at two n in
    let to_four : front four ≡ front three ++ part three = ap front (sym e4) ∙ parted xs at three n in
    ap (λ (s : Bits). steps poly_16 (steps poly_16 s (part two)) (part three)) (sym (steps_append poly_16 r (front n) (part n)) ∙ ap (steps poly_16 r) (sym to_two))
    ∙ ap (λ (s : Bits). steps poly_16 s (part three)) (sym (steps_append poly_16 r (front two) (part two)) ∙ ap (steps poly_16 r) (sym to_three))
    ∙ sym (steps_append poly_16 r (front three) (part three)) ∙ ap (steps poly_16 r) (sym to_four)

-- the next block of n bytes
pub next_block : (xs : List ℕ) (n i : ℕ) → steps poly_16 (register (all_bits (take (n * i) xs))) (all_bits (take n (drop (n * i) xs))) ≡ register (all_bits (take (n * (i + 1)) xs))
next_block xs n i =
    let more : n * i + n ≡ n * (i + 1) = omega arith in
    sym (register_append (all_bits (take (n * i) xs)) (all_bits (take n (drop (n * i) xs)))) ∙ ap register (sym (all_bits-append (take (n * i) xs) (take n (drop (n * i) xs)))) ∙ ap (λ (ys : List ℕ). register (all_bits ys)) (sym (take-add (n * i) n xs) ∙ ap (λ (k : ℕ). take k xs) more)

sixteen_zeros : words_bits (0 ∷ 0 ∷ 0 ∷ 0 ∷ 0 ∷ 0 ∷ 0 ∷ 0 ∷ 0 ∷ 0 ∷ 0 ∷ 0 ∷ 0 ∷ 0 ∷ 0 ∷ 0 ∷ []) ≡ zeros 1024
unfolding bits_of
sixteen_zeros = refl

pub nothing_yet : (xs : List ℕ) → register (words_bits (0 ∷ 0 ∷ 0 ∷ 0 ∷ 0 ∷ 0 ∷ 0 ∷ 0 ∷ 0 ∷ 0 ∷ 0 ∷ 0 ∷ 0 ∷ 0 ∷ 0 ∷ 0 ∷ [])) ≡ register (all_bits (take (128 * 0) xs))
unfolding all_bits
nothing_yet xs = ap register sixteen_zeros ∙ register_zeros 1024

pub next_word : (xs : List ℕ) (i : ℕ) → i < length xs → steps poly_16 (register (words_bits (take i xs))) (bits_of 64 (get_or xs i 0)) ≡ register (words_bits (take (i + 1) xs))
next_word xs i lt =
    sym (register_append (words_bits (take i xs)) (bits_of 64 (get_or xs i 0)))
    ∙ ap register (ap (λ (b : Bits). words_bits (take i xs) ++ b) (sym (append-nil (bits_of 64 (get_or xs i 0)))) ∙ sym (words_bits-append (take i xs) (get_or xs i 0 ∷ [])) ∙ ap words_bits (sym (take_more xs i 0 lt)))

pub both_parts : (xs : List ℕ) (n : ℕ) → steps poly_16 (register (all_bits (take n xs))) (all_bits (drop n xs)) ≡ register (all_bits xs)
both_parts xs n = sym (register_append (all_bits (take n xs)) (all_bits (drop n xs))) ∙ ap register (sym (all_bits-append (take n xs) (drop n xs)) ∙ ap all_bits (take-append-drop n xs))
