-- A word whose top is bits.
use Rattle.std.proofs.Common.{◌≡◌, ℕ, zero, suc, ◌+◌, ◌-◌, ◌*◌, ◌/◌, ◌%◌, ◌^◌, ◌<◌, ◌≤◌, [], ◌∷◌, ◌++◌, length, take, drop, refl, sym, ap, subst, ◌∙◌, arith}
use Rattle.std.proofs.lemmas.List.{length-take-le, length-drop}
use Rattle.std.proofs.lemmas.Nat.{pow-add, shr_high, mod_low, shl_below, shr-shr}
use Rattle.spec_bits.specs.Bits.{Bits, number_of}
use Rattle.flac_bits.specs.Windows.{IsTop}
use Rattle.spec_bits.proofs.BitsLaws.{number_of-bound}
use Rattle.spec_bits.proofs.JoinLaws.{number_of-append}

abbrev pub no_bits : Bits
no_bits = []

pub take-nil : (k : ℕ) → take k no_bits ≡ []
take-nil zero = refl
take-nil (suc k) = refl

-- the first m bits are the first r, and m - r after them
pub front_split : (bits : Bits) (m r : ℕ) → m ≤ length bits → r ≤ m → number_of (take m bits) ≡ number_of (take r bits) * 2 ^ (m - r) + number_of (take (m - r) (drop r bits))
front_split bits m r le in_m =
    let whole : take m bits ≡ take r bits ++ take (m - r) (drop r bits) = parts bits m r in_m in
    let len : length (take (m - r) (drop r bits)) ≡ m - r = length-take-le (m - r) (drop r bits) (omega (arith, length-drop r bits)) in
    ap number_of whole ∙ number_of-append (take r bits) (take (m - r) (drop r bits)) ∙ ap (λ (k : ℕ). number_of (take r bits) * 2 ^ k + number_of (take (m - r) (drop r bits))) len
  where
    parts : (bits : Bits) (m r : ℕ) → r ≤ m → take m bits ≡ take r bits ++ take (m - r) (drop r bits)
    parts bits m zero le = ap (λ (k : ℕ). take k bits) (omega arith)
    parts [] m (suc r) le = take-nil m ∙ sym (take-nil (m - suc r))
    parts (b ∷ bits) zero (suc r) le = absurd (omega arith)
    parts (b ∷ bits) (suc m) (suc r) le = ap (λ (x : Bits). b ∷ x) (parts bits m r (omega arith) ∙ ap (λ (k : ℕ). take r bits ++ take k (drop r bits)) (omega arith))

pub front_below : (bits : Bits) (m : ℕ) → m ≤ length bits → number_of (take m bits) < 2 ^ m
front_below bits m le = subst (λ (k : ℕ). number_of (take m bits) < 2 ^ k) (length-take-le m bits le) (number_of-bound (take m bits))

pub power_split : (a b c : ℕ) → a + b ≡ c → 2 ^ a * 2 ^ b ≡ 2 ^ c
power_split a b c e = sym (pow-add 2 a b) ∙ ap (λ (k : ℕ). 2 ^ k) e

-- shifting the word drops bits
pub shifted : (word m r : ℕ) (bits : Bits) → r ≤ m → IsTop word m bits → IsTop ((word * 2 ^ r) % 2 ^ 64) (m - r) (drop r bits)
shifted word m r bits le top =
    let a = number_of (take r bits) in
    let b = number_of (take (m - r) (drop r bits)) in
    let few : m ≤ 64 = top.few in
    let inside : m ≤ length bits = top.inside in
    let split : number_of (take m bits) ≡ a * 2 ^ (m - r) + b = front_split bits m r inside le in
    let inside2 : m - r ≤ length (drop r bits) = omega (arith, length-drop r bits) in
    let small : b < 2 ^ (m - r) = front_below (drop r bits) (m - r) inside2 in
    let gap : (64 - m) + r ≡ 64 - (m - r) = omega arith in
    let up : (m - r) + (64 - (m - r)) ≡ 64 = omega arith in
    let whole : word * 2 ^ r ≡ a * 2 ^ 64 + b * 2 ^ (64 - (m - r)) =
    regroup word a b (2 ^ (m - r)) (2 ^ (64 - m)) (2 ^ r) (2 ^ (64 - (m - r))) (2 ^ 64) (top.value ∙ ap (λ (n : ℕ). n * 2 ^ (64 - m)) split) (power_split (64 - m) r (64 - (m - r)) gap) (power_split (m - r) (64 - (m - r)) 64 up) in
    let below : b * 2 ^ (64 - (m - r)) < 2 ^ 64 = (let e : (m - r) + (64 - (m - r)) ≡ 64 = omega arith in subst (λ (k : ℕ). b * 2 ^ (64 - (m - r)) < 2 ^ k) e (shl_below b (m - r) (64 - (m - r)) small)) in
    record { few = omega arith; inside = inside2; value = ap (λ (n : ℕ). n % 2 ^ 64) whole ∙ mod_low a 64 (b * 2 ^ (64 - (m - r))) below }
  where
    regroup : (w a b p q s t u : ℕ) → w ≡ (a * p + b) * q → q * s ≡ t → p * t ≡ u → w * s ≡ a * u + b * t
    regroup w a b p q s t u e f g = rw (e, ← g, ← f) (omega arith)

-- the top of a word
pub on_top : (word m k : ℕ) (bits : Bits) → k ≤ m → IsTop word m bits → k < 64 → word / 2 / 2 ^ (63 - k) ≡ number_of (take k bits)
on_top word m k bits le top small =
    let a = number_of (take k bits) in
    let b = number_of (take (m - k) (drop k bits)) in
    let few : m ≤ 64 = top.few in
    let inside : m ≤ length bits = top.inside in
    let split : number_of (take m bits) ≡ a * 2 ^ (m - k) + b = front_split bits m k inside le in
    let below : b < 2 ^ (m - k) = front_below (drop k bits) (m - k) (omega (arith, length-drop k bits)) in
    let whole : word ≡ a * 2 ^ (64 - k) + b * 2 ^ (64 - m) = top.value ∙ ap (λ (n : ℕ). n * 2 ^ (64 - m)) split ∙ spread a b (2 ^ (m - k)) (2 ^ (64 - m)) (2 ^ (64 - k)) (power_split (m - k) (64 - m) (64 - k) (omega arith)) in
    let under : b * 2 ^ (64 - m) < 2 ^ (64 - k) = (let e : (m - k) + (64 - m) ≡ 64 - k = omega arith in subst (λ (j : ℕ). b * 2 ^ (64 - m) < 2 ^ j) e (shl_below b (m - k) (64 - m) below)) in
    let count : 1 + (63 - k) ≡ 64 - k = omega arith in
    shr-shr word 1 (63 - k) ∙ ap (λ (j : ℕ). word / 2 ^ j) count ∙ ap (λ (n : ℕ). n / 2 ^ (64 - k)) whole ∙ shr_high a (64 - k) (b * 2 ^ (64 - m)) under
  where
    spread : (a b p q t : ℕ) → p * q ≡ t → (a * p + b) * q ≡ a * t + b * q
    spread a b p q t e = rw (← e) (omega arith)
