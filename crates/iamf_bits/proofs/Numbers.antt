-- The number that stands among the bits of bytes.
use Rattle.std.proofs.Common.{◌≡◌, ℕ, ◌+◌, ◌-◌, ◌*◌, ◌/◌, ◌%◌, ◌^◌, ◌<◌, ◌≤◌, List, ◌++◌, length, take, drop, sym, ap, subst, ◌∙◌, arith, append_assoc}
use Rattle.std.proofs.lemmas.List.{take-append-drop, length-take-le, length-drop, take-append-le, drop-append-le}
use Rattle.std.proofs.lemmas.Nat.{shr_high, mod_low}
use Rattle.spec_bits.specs.Bits.{Bits, number_of, all_bits}
use Rattle.spec_bits.proofs.BitsLaws.{number_of-bound, all_bits-append, length-all_bits}
use Rattle.spec_bits.proofs.JoinLaws.{number_of-append}

-- the bits between are the number without its end and its front
pub number_of-between : (bits : Bits) (used n : ℕ) → used + n ≤ length bits → number_of (take n (drop used bits)) ≡ number_of bits / 2 ^ (length bits - (used + n)) % 2 ^ n
number_of-between bits used n le =
    let front = take used bits in
    let middle = take n (drop used bits) in
    let end = drop n (drop used bits) in
    let whole : bits ≡ front ++ (middle ++ end) = sym (take-append-drop used bits) ∙ ap (λ (b : Bits). front ++ b) (sym (take-append-drop n (drop used bits))) in
    let middle_len : length middle ≡ n = length-take-le n (drop used bits) (omega (arith, length-drop used bits)) in
    let end_len : length end ≡ length bits - (used + n) = omega (arith, length-drop n (drop used bits), length-drop used bits) in
    let regrouped : bits ≡ (front ++ middle) ++ end = whole ∙ sym (append_assoc front middle end) in
    let value : number_of bits ≡ (number_of front * 2 ^ n + number_of middle) * 2 ^ (length bits - (used + n)) + number_of end =
    ap number_of regrouped ∙ number_of-append (front ++ middle) end ∙ ap (λ (k : ℕ). number_of (front ++ middle) * 2 ^ k + number_of end) end_len
    ∙ ap (λ (k : ℕ). k * 2 ^ (length bits - (used + n)) + number_of end) (number_of-append front middle ∙ ap (λ (k : ℕ). number_of front * 2 ^ k + number_of middle) middle_len) in
    let end_below : number_of end < 2 ^ (length bits - (used + n)) = subst (λ (k : ℕ). number_of end < 2 ^ k) end_len (number_of-bound end) in
    let middle_below : number_of middle < 2 ^ n = subst (λ (k : ℕ). number_of middle < 2 ^ k) middle_len (number_of-bound middle) in
    sym (ap (λ (k : ℕ). k / 2 ^ (length bits - (used + n)) % 2 ^ n) value
    ∙ ap (λ (k : ℕ). k % 2 ^ n) (shr_high (number_of front * 2 ^ n + number_of middle) (length bits - (used + n)) (number_of end) end_below)
    ∙ mod_low (number_of front) n (number_of middle) middle_below)

-- n bits after `used` ones, read from the first `count` bytes
pub number_there : (xs : List ℕ) (used n count : ℕ) → count ≤ length xs → used + n ≤ 8 * count
    → number_of (take n (drop used (all_bits xs))) ≡ number_of (all_bits (take count xs)) / 2 ^ (8 * count - (used + n)) % 2 ^ n
number_there xs used n count le enough =
    let bits = all_bits (take count xs) in
    let split : all_bits xs ≡ bits ++ all_bits (drop count xs) = ap all_bits (sym (take-append-drop count xs)) ∙ all_bits-append (take count xs) (drop count xs) in
    let len : length bits ≡ 8 * count = length-all_bits (take count xs) ∙ ap (λ (k : ℕ). 8 * k) (length-take-le count xs le) in
    let cut : take n (drop used (bits ++ all_bits (drop count xs))) ≡ take n (drop used bits) =
    ap (take n) (drop-append-le used bits (all_bits (drop count xs)) (omega arith)) ∙ take-append-le n (drop used bits) (all_bits (drop count xs)) (omega (arith, length-drop used bits)) in
    ap (λ (b : Bits). number_of (take n (drop used b))) split ∙ ap number_of cut ∙ number_of-between bits used n (omega arith) ∙ ap (λ (k : ℕ). number_of bits / 2 ^ (k - (used + n)) % 2 ^ n) len
