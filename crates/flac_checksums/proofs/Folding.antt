-- A word above sixteen others may be added to three of those below it instead.
use Rattle.std.proofs.Common.{◌≡◌, ℕ, zero, suc, ◌+◌, ◌*◌, ◌^◌, ◌<◌, true, false, List, [], ◌∷◌, ◌++◌, length, length-append, append_assoc, refl, sym, ap, ◌∙◌, arith, bit_xor}
use Rattle.std.proofs.lemmas.List.{append-nil}
use Rattle.spec_bits.specs.Bits.{Bits, zeros, bits_of}
use Rattle.spec_bits.proofs.BitsLaws.{length-bits_of, length-zeros}
use Rattle.spec_checksums.specs.Polynomials.{◌⊕◌, poly_16, step, steps}
use Rattle.spec_checksums.proofs.Sums.{sum_assoc, sum_self, sum_zeros, zeros_sum, sum_append, length-sum, zeros_append}
use Rattle.spec_checksums.proofs.Division.{steps_append, steps_sum, length-steps}
use Rattle.flac_checksums.specs.Registers.{register, words_bits}
use Rattle.flac_checksums.proofs.Bytes.{bits_xor}
use Rattle.flac_checksums.proofs.Table8.{wide_16}

-- ---- the register

length-register : (m : Bits) → length (register m) ≡ 16
length-register m = length-steps poly_16 (zeros 16) m (length-zeros 16 ∙ sym wide_16) ∙ wide_16

pub register_append : (a b : Bits) → register (a ++ b) ≡ steps poly_16 (register a) b
register_append a b = steps_append poly_16 (zeros 16) a b

register_sum : (a b : Bits) → length a ≡ length b → register (a ⊕ b) ≡ register a ⊕ register b
register_sum a b e =
    let none : zeros 16 ≡ zeros 16 ⊕ zeros 16 = refl in
    ap (λ (r : Bits). steps poly_16 r (a ⊕ b)) none ∙ steps_sum poly_16 (zeros 16) (zeros 16) a b (length-zeros 16 ∙ sym wide_16) (length-zeros 16 ∙ sym wide_16) e

zero_step : step poly_16 (zeros 16) false ≡ zeros 16
unfolding poly_16 bits_of
zero_step = refl

pub register_zeros : (n : ℕ) → register (zeros n) ≡ zeros 16
register_zeros zero = refl
register_zeros (suc n) = ap (λ (r : Bits). steps poly_16 r (zeros n)) zero_step ∙ register_zeros n

lead : (n : ℕ) (m : Bits) → register (zeros n ++ m) ≡ register m
lead n m = register_append (zeros n) m ∙ ap (λ (r : Bits). steps poly_16 r m) (register_zeros n)

trail : (m : Bits) (n : ℕ) → register m ≡ zeros 16 → register (m ++ zeros n) ≡ zeros 16
trail m n e = register_append m (zeros n) ∙ ap (λ (r : Bits). steps poly_16 r (zeros n)) e ∙ register_zeros n

-- ---- the 64th power of the polynomial, times a word

-- the power's bits, a one at each of four places
power : Bits
power = true ∷ (zeros 63 ++ (true ∷ (zeros 831 ++ (true ∷ (zeros 127 ++ (true ∷ []))))))

power_none : register power ≡ zeros 16
unfolding power poly_16 bits_of
power_none = refl

abbrev times_power : Bits → Bits
times_power h = h ++ (h ++ (zeros 768 ++ (h ++ (zeros 64 ++ h))))

both_sums : (x y s t u : Bits) → length x ≡ length y → s ⊕ t ≡ u → (x ++ s) ⊕ (y ++ t) ≡ (x ⊕ y) ++ u
both_sums x y s t u e f = sum_append x y s t e ∙ ap (λ (z : Bits). (x ⊕ y) ++ z) f

no_sum : (n : ℕ) → zeros n ⊕ zeros n ≡ zeros n
no_sum n = zeros_sum n (zeros n) (omega (arith, length-zeros n))

gap_sums : (n : ℕ) (s t u : Bits) → s ⊕ t ≡ u → (zeros n ++ s) ⊕ (zeros n ++ t) ≡ zeros n ++ u
gap_sums n s t u f = sum_append (zeros n) (zeros n) s t refl ∙ ap (λ (z : Bits). z ++ (s ⊕ t)) (no_sum n) ∙ ap (λ (z : Bits). zeros n ++ z) f

times_power_sum : (x y : Bits) → length x ≡ length y → times_power (x ⊕ y) ≡ times_power x ⊕ times_power y
times_power_sum x y e =
    let z = x ⊕ y in
    let four = gap_sums 64 x y z refl in
    let three = both_sums x y (zeros 64 ++ x) (zeros 64 ++ y) (zeros 64 ++ z) e four in
    let two = gap_sums 768 (x ++ (zeros 64 ++ x)) (y ++ (zeros 64 ++ y)) (z ++ (zeros 64 ++ z)) three in
    let one = both_sums x y (zeros 768 ++ (x ++ (zeros 64 ++ x))) (zeros 768 ++ (y ++ (zeros 64 ++ y))) (zeros 768 ++ (z ++ (zeros 64 ++ z))) e two in
    sym (both_sums x y (x ++ (zeros 768 ++ (x ++ (zeros 64 ++ x)))) (y ++ (zeros 768 ++ (y ++ (zeros 64 ++ y)))) (z ++ (zeros 768 ++ (z ++ (zeros 64 ++ z)))) e one)

length-times_power : (h : Bits) → length h ≡ 64 → length (times_power h) ≡ 1088
length-times_power h e =
    omega (arith, length-append h (h ++ (zeros 768 ++ (h ++ (zeros 64 ++ h)))), length-append h (zeros 768 ++ (h ++ (zeros 64 ++ h))), length-append (zeros 768) (h ++ (zeros 64 ++ h)), length-append h (zeros 64 ++ h), length-append (zeros 64) h, length-zeros 768, length-zeros 64)

gap : (k m i n : ℕ) (t : Bits) → k + m + i ≡ n → zeros k ++ (zeros m ++ (zeros i ++ t)) ≡ zeros n ++ t
gap k m i n t e =
    sym (append_assoc (zeros k) (zeros m) (zeros i ++ t)) ∙ ap (λ (z : Bits). z ++ (zeros i ++ t)) (zeros_append k m) ∙ sym (append_assoc (zeros (k + m)) (zeros i) t) ∙ ap (λ (z : Bits). z ++ t) (zeros_append (k + m) i ∙ ap zeros e)

-- a word with one bit
abbrev one_bit : ℕ → ℕ → Bits
one_bit i k = zeros i ++ (true ∷ zeros k)

hop : (i k m n : ℕ) (t : Bits) → k + m + i ≡ n → zeros k ++ (zeros m ++ (one_bit i k ++ t)) ≡ zeros n ++ (true ∷ (zeros k ++ t))
hop i k m n t e = ap (λ (z : Bits). zeros k ++ (zeros m ++ z)) (append_assoc (zeros i) (true ∷ zeros k) t) ∙ gap k m i n (true ∷ (zeros k ++ t)) e

one_bit_times : (i k : ℕ) → i + 1 + k ≡ 64 → times_power (one_bit i k) ≡ zeros i ++ (power ++ zeros k)
unfolding power
one_bit_times i k e =
    let x = one_bit i k in
    let last : zeros k ++ (zeros 64 ++ x) ≡ zeros 127 ++ (true ∷ zeros k) = gap k 64 i 127 (true ∷ zeros k) (omega arith) in
    let third = hop i k 768 831 (zeros 64 ++ x) (omega arith) in
    let second = hop i k 0 63 (zeros 768 ++ (x ++ (zeros 64 ++ x))) (omega arith) in
    append_assoc (zeros i) (true ∷ zeros k) (x ++ (zeros 768 ++ (x ++ (zeros 64 ++ x))))
    ∙ ap (λ (z : Bits). zeros i ++ (true ∷ z)) second
    ∙ ap (λ (z : Bits). zeros i ++ (true ∷ (zeros 63 ++ (true ∷ z)))) third
    ∙ ap (λ (z : Bits). zeros i ++ (true ∷ (zeros 63 ++ (true ∷ (zeros 831 ++ (true ∷ z)))))) last

one_bit_none : (i k : ℕ) → i + 1 + k ≡ 64 → register (times_power (one_bit i k)) ≡ zeros 16
one_bit_none i k e = ap register (one_bit_times i k e) ∙ lead i (power ++ zeros k) ∙ trail power k power_none

no_bit_none : register (times_power (zeros 64)) ≡ zeros 16
no_bit_none =
    ap register (ap (λ (z : Bits). zeros 64 ++ (zeros 64 ++ (zeros 768 ++ z))) (zeros_append 64 128) ∙ ap (λ (z : Bits). zeros 64 ++ (zeros 64 ++ z)) (zeros_append 768 192) ∙ ap (λ (z : Bits). zeros 64 ++ z) (zeros_append 64 960) ∙ zeros_append 64 1024)
    ∙ register_zeros 1088

one_further : (i : ℕ) (t : Bits) → zeros i ++ (false ∷ t) ≡ zeros (suc i) ++ t
one_further i t = sym (append_assoc (zeros i) (false ∷ []) t) ∙ ap (λ (z : Bits). z ++ t) (zeros_append i 1 ∙ (let e : i + 1 ≡ suc i = omega arith in ap zeros e))

-- the bits after so many of a word
part_none : (i : ℕ) (hs : Bits) → i + length hs ≡ 64 → register (times_power (zeros i ++ hs)) ≡ zeros 16
part_none i [] e =
    let all : zeros i ++ [] ≡ zeros 64 = append-nil (zeros i) ∙ (let s : i ≡ 64 = omega arith in ap zeros s) in
    ap (λ (z : Bits). register (times_power z)) all ∙ no_bit_none
part_none i (false ∷ hs) e = ap (λ (z : Bits). register (times_power z)) (one_further i hs) ∙ part_none (suc i) hs (omega arith)
part_none i (true ∷ hs) e =
    let x = one_bit i (length hs) in
    let y = zeros (suc i) ++ hs in
    let sum : x ⊕ y ≡ zeros i ++ (true ∷ hs) =
    ap (λ (z : Bits). x ⊕ z) (sym (one_further i hs)) ∙ sum_append (zeros i) (zeros i) (true ∷ zeros (length hs)) (false ∷ hs) refl ∙ ap (λ (z : Bits). z ++ (true ∷ (zeros (length hs) ⊕ hs))) (no_sum i)
    ∙ ap (λ (z : Bits). zeros i ++ (true ∷ z)) (zeros_sum (length hs) hs (omega arith)) in
    let len_x : length x ≡ 64 = omega (arith, length-append (zeros i) (true ∷ zeros (length hs)), length-zeros i, length-zeros (length hs)) in
    let len_y : length y ≡ 64 = omega (arith, length-append (zeros (suc i)) hs, length-zeros (suc i)) in
    ap (λ (z : Bits). register (times_power z)) (sym sum) ∙ ap register (times_power_sum x y (len_x ∙ sym len_y))
    ∙ register_sum (times_power x) (times_power y) (length-times_power x len_x ∙ sym (length-times_power y len_y))
    ∙ ap (λ (r : Bits). r ⊕ register (times_power y)) (one_bit_none i (length hs) (omega arith)) ∙ ap (λ (r : Bits). zeros 16 ⊕ r) (part_none (suc i) hs (omega arith)) ∙ no_sum 16

times_power_none : (h : Bits) → length h ≡ 64 → register (times_power h) ≡ zeros 16
times_power_none h e = part_none 0 h (omega arith)

-- ---- seventeen words are sixteen

added_twice : (x h : Bits) → length x ≡ length h → (x ⊕ h) ⊕ h ≡ x
added_twice x h e = sum_assoc x h h ∙ ap (λ (z : Bits). x ⊕ z) (sum_self h) ∙ sum_zeros x (length h) (omega arith)

swapped : (h a m b c w : Bits) → length h ≡ 64 → length a ≡ 64 → length m ≡ 768 → length b ≡ 64 → length c ≡ 64 → length w ≡ 64
    → register (h ++ (a ++ (m ++ (b ++ (c ++ w))))) ≡ register ((a ⊕ h) ++ (m ++ ((b ⊕ h) ++ (c ++ (w ⊕ h)))))
swapped h a m b c w eh ea em eb ec ew =
    let rest = (a ⊕ h) ++ (m ++ ((b ⊕ h) ++ (c ++ (w ⊕ h)))) in
    let la : length (a ⊕ h) ≡ 64 = length-sum a h (ea ∙ sym eh) ∙ eh in
    let lb : length (b ⊕ h) ≡ 64 = length-sum b h (eb ∙ sym eh) ∙ eh in
    let lw : length (w ⊕ h) ≡ 64 = length-sum w h (ew ∙ sym eh) ∙ eh in
    let len : length (zeros 64 ++ rest) ≡ 1088 =
    omega (arith, length-append (zeros 64) rest, length-append (a ⊕ h) (m ++ ((b ⊕ h) ++ (c ++ (w ⊕ h)))), length-append m ((b ⊕ h) ++ (c ++ (w ⊕ h))), length-append (b ⊕ h) (c ++ (w ⊕ h)), length-append c (w ⊕ h), length-zeros 64) in
    let five = piece c (zeros 64) c (w ⊕ h) h w (ec ∙ sym (length-zeros 64)) (sum_zeros c 64 (omega arith)) (added_twice w h (ew ∙ sym eh)) in
    let four = piece (b ⊕ h) h b (c ++ (w ⊕ h)) (zeros 64 ++ h) (c ++ w) (lb ∙ sym eh) (added_twice b h (eb ∙ sym eh)) five in
    let three = piece m (zeros 768) m ((b ⊕ h) ++ (c ++ (w ⊕ h))) (h ++ (zeros 64 ++ h)) (b ++ (c ++ w)) (em ∙ sym (length-zeros 768)) (sum_zeros m 768 (omega arith)) four in
    let two = piece (a ⊕ h) h a (m ++ ((b ⊕ h) ++ (c ++ (w ⊕ h)))) (zeros 768 ++ (h ++ (zeros 64 ++ h))) (m ++ (b ++ (c ++ w))) (la ∙ sym eh) (added_twice a h (ea ∙ sym eh)) three in
    let sum : (zeros 64 ++ rest) ⊕ times_power h ≡ h ++ (a ++ (m ++ (b ++ (c ++ w)))) =
    piece (zeros 64) h h rest (h ++ (zeros 768 ++ (h ++ (zeros 64 ++ h)))) (a ++ (m ++ (b ++ (c ++ w)))) (length-zeros 64 ∙ sym eh) (zeros_sum 64 h (omega arith)) two in
    ap register (sym sum) ∙ register_sum (zeros 64 ++ rest) (times_power h) (len ∙ sym (length-times_power h eh)) ∙ ap (λ (r : Bits). register (zeros 64 ++ rest) ⊕ r) (times_power_none h eh)
    ∙ sum_zeros (register (zeros 64 ++ rest)) 16 (omega (arith, length-register (zeros 64 ++ rest))) ∙ lead 64 rest
  where
    piece : (x y z s t u : Bits) → length x ≡ length y → x ⊕ y ≡ z → s ⊕ t ≡ u → (x ++ s) ⊕ (y ++ t) ≡ z ++ u
    piece x y z s t u e f g = sum_append x y s t e ∙ ap (λ (v : Bits). v ++ (s ⊕ t)) f ∙ ap (λ (v : Bits). z ++ v) g

-- ---- words

pub words_bits-append : (xs ys : List ℕ) → words_bits (xs ++ ys) ≡ words_bits xs ++ words_bits ys
words_bits-append [] ys = refl
words_bits-append (x ∷ xs) ys = ap (λ (z : Bits). bits_of 64 x ++ z) (words_bits-append xs ys) ∙ sym (append_assoc (bits_of 64 x) (words_bits xs) (words_bits ys))

length-words_bits : (xs : List ℕ) → length (words_bits xs) ≡ 64 * length xs
length-words_bits [] = refl
length-words_bits (x ∷ xs) = omega (arith, length-append (bits_of 64 x) (words_bits xs), length-bits_of 64 x, length-words_bits xs)

pub one_more_word : (h a b c w : ℕ) (ms : List ℕ) → length ms ≡ 12 → h < 2 ^ 64 → a < 2 ^ 64 → b < 2 ^ 64 → w < 2 ^ 64
    → register (words_bits (bit_xor a h ∷ (ms ++ (bit_xor b h ∷ c ∷ bit_xor w h ∷ [])))) ≡ steps poly_16 (register (words_bits (h ∷ a ∷ (ms ++ (b ∷ c ∷ []))))) (bits_of 64 w)
one_more_word h a b c w ms len sh sa sb sw =
    let H = bits_of 64 h in
    let A = bits_of 64 a in
    let M = words_bits ms in
    let B = bits_of 64 b in
    let C = bits_of 64 c in
    let W = bits_of 64 w in
    let old : words_bits (h ∷ a ∷ (ms ++ (b ∷ c ∷ []))) ++ W ≡ H ++ (A ++ (M ++ (B ++ (C ++ W)))) =
    ap (λ (z : Bits). (H ++ (A ++ z)) ++ W) (words_bits-append ms (b ∷ c ∷ []) ∙ ap (λ (z : Bits). M ++ (B ++ z)) (append-nil C))
    ∙ append_assoc H (A ++ (M ++ (B ++ C))) W ∙ ap (λ (z : Bits). H ++ z) (append_assoc A (M ++ (B ++ C)) W ∙ ap (λ (z : Bits). A ++ z) (append_assoc M (B ++ C) W ∙ ap (λ (z : Bits). M ++ z) (append_assoc B C W))) in
    let new : words_bits (bit_xor a h ∷ (ms ++ (bit_xor b h ∷ c ∷ bit_xor w h ∷ []))) ≡ (A ⊕ H) ++ (M ++ ((B ⊕ H) ++ (C ++ (W ⊕ H)))) =
    ap (λ (z : Bits). bits_of 64 (bit_xor a h) ++ z) (words_bits-append ms (bit_xor b h ∷ c ∷ bit_xor w h ∷ []) ∙ ap (λ (z : Bits). M ++ (bits_of 64 (bit_xor b h) ++ (C ++ z))) (append-nil (bits_of 64 (bit_xor w h))))
    ∙ rw (bits_xor 64 a h sa sh, bits_xor 64 b h sb sh, bits_xor 64 w h sw sh) refl in
    ap register new ∙ sym (swapped H A M B C W (length-bits_of 64 h) (length-bits_of 64 a) (length-words_bits ms ∙ ap (λ (n : ℕ). 64 * n) len) (length-bits_of 64 b) (length-bits_of 64 c) (length-bits_of 64 w))
    ∙ ap register (sym old) ∙ register_append (words_bits (h ∷ a ∷ (ms ++ (b ∷ c ∷ [])))) W
