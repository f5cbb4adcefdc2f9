-- Windows that move on, and windows that are filled anew.
use Rattle.std.proofs.Common.{◌≡◌, ℕ, ◌+◌, ◌-◌, ◌*◌, ◌^◌, ◌%◌, ◌<◌, ◌≤◌, true, false, List, [], length, drop, refl, ap, subst, ◌∙◌, arith, inl, inr}
use Rattle.std.proofs.lemmas.Bool.{cases_lt, lt-ltb, le-ltb}
use Rattle.std.proofs.lemmas.List.{drop-drop, drop_all}
use Rattle.std.specs.Prelude.{nat_lt}
use Rattle.spec_bits.specs.Bits.{Bits, number_of, all_bits}
use Rattle.spec_bits.proofs.BitsLaws.{length-all_bits}
use Rattle.flac_bits.specs.Ones.{first_one}
use Rattle.flac_bits.specs.Places.{capped}
use Rattle.flac_bits.specs.Windows.{IsTop, IsWindow, place_of}
use Rattle.flac_bits.specs.declared.window.Window.{Window}
use Rattle.flac_bits.proofs.TopBits.{shifted}

abbrev pub window : ℕ → ℕ → ℕ → Window
window word count next = record { word = word; count = count; next = next }

pub moved : (bytes : List ℕ) (w : Window) (n : ℕ) → n ≤ w.count → IsWindow bytes w → IsWindow bytes (window ((w.word * 2 ^ n) % 2 ^ 64) (w.count - n) w.next)
moved bytes w n le is =
    let bits = all_bits bytes in
    let place : place_of w + n ≡ 8 * w.next - (w.count - n) = omega (arith, is.behind) in
    let e : drop n (drop (place_of w) bits) ≡ drop (8 * w.next - (w.count - n)) bits = drop-drop n (place_of w) bits ∙ ap (λ (k : ℕ). drop k bits) place in
    record { within = is.within; behind = omega (arith, is.behind); top = subst (λ (b : Bits). IsTop ((w.word * 2 ^ n) % 2 ^ 64) (w.count - n) b) e (shifted w.word w.count n (drop (place_of w) bits) le is.top) }

pub moved_one : (bytes : List ℕ) (w : Window) (z : ℕ) → z < w.count → IsWindow bytes w → IsWindow bytes (window (((w.word * 2 ^ z) % 2 ^ 64 * 2) % 2 ^ 64) (w.count - (z + 1)) w.next)
moved_one bytes w z lt is =
    let one = moved bytes w z (omega arith) is in
    let e : w.count - z - 1 ≡ w.count - (z + 1) = omega arith in
    subst (λ (n : ℕ). IsWindow bytes (window (((w.word * 2 ^ z) % 2 ^ 64 * 2) % 2 ^ 64) n w.next)) e (moved bytes (window ((w.word * 2 ^ z) % 2 ^ 64) (w.count - z) w.next) 1 (omega arith) one)

-- eight bytes from a place, without so many of their bits
pub fresh : (bytes : List ℕ) (word at used : ℕ) → used < 8 → at + 8 ≤ length bytes → IsTop word 64 (drop (8 * at) (all_bits bytes)) → IsWindow bytes (window ((word * 2 ^ used) % 2 ^ 64) (64 - used) (at + 8))
fresh bytes word at used small le top =
    let bits = all_bits bytes in
    let place : 8 * at + used ≡ 8 * (at + 8) - (64 - used) = omega arith in
    let e : drop used (drop (8 * at) bits) ≡ drop (8 * (at + 8) - (64 - used)) bits = drop-drop used (8 * at) bits ∙ ap (λ (k : ℕ). drop k bits) place in
    record { within = le; behind = omega arith; top = subst (λ (b : Bits). IsTop ((word * 2 ^ used) % 2 ^ 64) (64 - used) b) e (shifted word 64 used (drop (8 * at) bits) (omega arith) top) }

-- the same of fewer bytes
pub last : (bytes : List ℕ) (w at used : ℕ) → at ≤ length bytes → length bytes - at < 8 → used ≤ 8 * (length bytes - at) → IsTop w (8 * (length bytes - at) - used) (drop (8 * at + used) (all_bits bytes)) → IsWindow bytes (window w (8 * (length bytes - at) - used) (length bytes))
last bytes w at used within few le top =
    let place : 8 * at + used ≡ 8 * length bytes - (8 * (length bytes - at) - used) = omega arith in
    record { within = omega arith; behind = omega arith; top = subst (λ (k : ℕ). IsTop w (8 * (length bytes - at) - used) (drop k (all_bits bytes))) place top }

-- no bits
pub empty : (bytes : List ℕ) (next : ℕ) → next ≤ length bytes → IsWindow bytes (window 0 0 next)
unfolding number_of
empty bytes next le = record { within = le; behind = omega arith; top = record { few = omega arith; inside = omega arith; value = refl } }

pub capped-plus : (d z : ℕ) → capped (capped d + z) ≡ capped (d + z)
capped-plus d z = elim (cases_lt d (2 ^ 32)) [
  | inl small ↦ let t : nat_lt d (2 ^ 32) ≡ true = lt-ltb _ _ small in rw t refl
  | inr large ↦
      let t : nat_lt d (2 ^ 32) ≡ false = le-ltb _ _ large in
      let u : nat_lt (2 ^ 32 + z) (2 ^ 32) ≡ false = le-ltb _ _ (omega arith) in
      let v : nat_lt (d + z) (2 ^ 32) ≡ false = le-ltb _ _ (omega arith) in
      rw (t, u, v) refl
]

pub capped_few : (n : ℕ) → capped n ≤ 2 ^ 32
capped_few n = elim (cases_lt n (2 ^ 32)) [
  | inl small ↦ let t : nat_lt n (2 ^ 32) ≡ true = lt-ltb _ _ small in rw t (omega arith)
  | inr large ↦ let t : nat_lt n (2 ^ 32) ≡ false = le-ltb _ _ large in rw t (omega arith)
]

-- nothing is left
pub none_left : (bytes : List ℕ) (place : ℕ) → 8 * length bytes ≤ place → first_one (drop place (all_bits bytes)) ≡ first_one []
none_left bytes place le = ap first_one (drop_all place (all_bits bytes) (omega (arith, length-all_bits bytes)))
