-- The number that the last bytes are, on top of a word.
use Rattle.std.proofs.Common.{◌≡◌, ℕ, ◌+◌, ◌-◌, ◌*◌, ◌^◌, ◌%◌, ◌<◌, ◌≤◌, List, length, take, drop, sym, ap, subst, ◌∙◌, arith}
use Rattle.std.proofs.lemmas.List.{length-drop, take_all, drop-drop}
use Rattle.std.proofs.lemmas.Nat.{shl_whole}
use Rattle.spec_bits.specs.Bits.{Bits, number_of, all_bits}
use Rattle.flac_bits.specs.Windows.{IsTop}
use Rattle.spec_bits.proofs.BitsLaws.{number_of-bound, length-all_bits, drop-all_bits}
use Rattle.flac_bits.proofs.TopBits.{shifted}

pub rest_all : (xs : List ℕ) (at : ℕ) → take (length xs - at) (drop at xs) ≡ drop at xs
rest_all xs at = take_all (length xs - at) (drop at xs) (omega (arith, length-drop at xs))

whole_top : (ys : List ℕ) (w : ℕ) → w ≡ number_of (all_bits ys) → length ys < 8 → IsTop ((w * 2 ^ (64 - 8 * length ys)) % 2 ^ 64) (8 * length ys) (all_bits ys)
whole_top ys w is few =
    let len : length (all_bits ys) ≡ 8 * length ys = length-all_bits ys in
    let below : number_of (all_bits ys) < 2 ^ (8 * length ys) = subst (λ (k : ℕ). number_of (all_bits ys) < 2 ^ k) len (number_of-bound (all_bits ys)) in
    let all : take (8 * length ys) (all_bits ys) ≡ all_bits ys = take_all (8 * length ys) (all_bits ys) (omega arith) in
    record {
      few = omega arith;
      inside = omega arith;
      value = rw (is, all) (shl_whole (number_of (all_bits ys)) (8 * length ys) (64 - 8 * length ys) 64 below (omega arith));
    }

pub last_top : (xs : List ℕ) (at used place w : ℕ) → at ≤ length xs → length xs - at < 8 → place ≡ 8 * at + used → used ≤ 8 * (length xs - at) → w ≡ number_of (all_bits (take (length xs - at) (drop at xs)))
    → IsTop (((w * 2 ^ (64 - 8 * (length xs - at))) % 2 ^ 64 * 2 ^ used) % 2 ^ 64) (8 * (length xs - at) - used) (drop place (all_bits xs))
last_top xs at used place w inside few split le is =
    let ys = drop at xs in
    let len : length ys ≡ length xs - at = length-drop at xs in
    let value : w ≡ number_of (all_bits ys) = is ∙ ap (λ (zs : List ℕ). number_of (all_bits zs)) (rest_all xs at) in
    let bits : drop used (all_bits ys) ≡ drop place (all_bits xs) = ap (drop used) (sym (drop-all_bits at xs)) ∙ drop-drop used (8 * at) (all_bits xs) ∙ ap (λ (k : ℕ). drop k (all_bits xs)) (sym split) in
    let top = shifted ((w * 2 ^ (64 - 8 * length ys)) % 2 ^ 64) (8 * length ys) used (all_bits ys) (omega arith) (whole_top ys w value (omega arith)) in
    subst (λ (b : Bits). IsTop (((w * 2 ^ (64 - 8 * (length xs - at))) % 2 ^ 64 * 2 ^ used) % 2 ^ 64) (8 * (length xs - at) - used) b) bits
    (subst (λ (n : ℕ). IsTop (((w * 2 ^ (64 - 8 * n)) % 2 ^ 64 * 2 ^ used) % 2 ^ 64) (8 * n - used) (drop used (all_bits ys))) len top)
