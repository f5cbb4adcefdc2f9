-- Bits that are whole bytes.
use Rattle.std.proofs.Common.{◌≡◌, ℕ, zero, suc, ◌*◌, ◌/◌, ◌%◌, ◌^◌, ◌<◌, List, [], ◌∷◌, ◌++◌, length, take, drop, refl, sym, ap, subst, ◌∙◌, arith, length-append}
use Rattle.std.proofs.lemmas.List.{length-take, length-drop, take-append-drop}
use Rattle.spec_bits.specs.Bits.{Bits, AreBytes, number_of, bits_of, all_bits}
use Rattle.spec_bits.proofs.BitsLaws.{length-all_bits, all_bits-append, bits_of-number_of, number_of-bound}
use Rattle.spec_values.specs.Canonical.{bytes_of, packed}

pub bytes-drop : (n : ℕ) (xs : List ℕ) → AreBytes xs → AreBytes (drop n xs)
bytes-drop zero xs p = p
bytes-drop (suc n) [] p = tt
bytes-drop (suc n) (x ∷ xs) p = bytes-drop n xs p.1

-- ---- packing

all_bits-bytes_of : (n : ℕ) (bits : Bits) → length bits ≡ 8 * n → all_bits (bytes_of n bits) ≡ bits
unfolding bytes_of all_bits
all_bits-bytes_of zero [] e = refl
all_bits-bytes_of zero (b ∷ bits) e = absurd (omega arith)
all_bits-bytes_of (suc n) bits e =
    let eight : length (take 8 bits) ≡ 8 = omega (arith, length-take 8 bits) in
    let first : bits_of 8 (number_of (take 8 bits)) ≡ take 8 bits = subst (λ (k : ℕ). bits_of k (number_of (take 8 bits)) ≡ take 8 bits) eight (bits_of-number_of (take 8 bits)) in
    ap (λ (x : Bits). x ++ all_bits (bytes_of n (drop 8 bits))) first ∙ ap (λ (x : Bits). take 8 bits ++ x) (all_bits-bytes_of n (drop 8 bits) (omega (arith, length-drop 8 bits))) ∙ take-append-drop 8 bits

bytes_of-are : (n : ℕ) (bits : Bits) → length bits ≡ 8 * n → AreBytes (bytes_of n bits)
unfolding bytes_of
bytes_of-are zero bits e = tt
bytes_of-are (suc n) bits e =
    let eight : length (take 8 bits) ≡ 8 = omega (arith, length-take 8 bits) in
    let below : number_of (take 8 bits) < 2 ^ 8 = subst (λ (k : ℕ). number_of (take 8 bits) < 2 ^ k) eight (number_of-bound (take 8 bits)) in
    (below, bytes_of-are n (drop 8 bits) (omega (arith, length-drop 8 bits)))

-- whole bytes are packed without loss
pub packed_is : (bits : Bits) → length bits % 8 ≡ 0 → (all_bits (packed bits) ≡ bits) × AreBytes (packed bits)
packed_is bits whole =
    let eights : length bits ≡ 8 * (length bits / 8) = omega (arith, whole) in
    (all_bits-bytes_of (length bits / 8) bits eights, bytes_of-are (length bits / 8) bits eights)

-- ---- cutting

append_same : {A : Type 0} (a b c d : List A) → length a ≡ length c → a ++ b ≡ c ++ d → (a ≡ c) × (b ≡ d)
append_same [] b [] d e h = (refl, h)
append_same [] b (y ∷ c) d e h = absurd (omega arith)
append_same (x ∷ a) b [] d e h = absurd (omega arith)
append_same (x ∷ a) b (y ∷ c) d e h =
    let heads : x ≡ y = cc in
    let tails : a ++ b ≡ c ++ d = cc in
    let r = append_same a b c d (omega arith) tails in
    let same : a ≡ c = r.0 in
    (cc, r.1)

-- what is left of bytes after whole bytes is bytes
pub rest_is : (payload : List ℕ) (front rest : Bits) → all_bits payload ≡ front ++ rest → length front % 8 ≡ 0 → rest ≡ all_bits (drop (length front / 8) payload)
rest_is payload front rest e whole =
    let n = length front / 8 in
    let total : length (all_bits payload) ≡ length (front ++ rest) = ap length e in
    let parts : all_bits (take n payload) ++ all_bits (drop n payload) ≡ front ++ rest = sym (all_bits-append (take n payload) (drop n payload)) ∙ ap all_bits (take-append-drop n payload) ∙ e in
    let len : length (all_bits (take n payload)) ≡ length front = omega (arith, whole, total, length-append front rest, length-all_bits payload, length-all_bits (take n payload), length-take n payload) in
    sym (append_same (all_bits (take n payload)) (all_bits (drop n payload)) front rest len parts).1
