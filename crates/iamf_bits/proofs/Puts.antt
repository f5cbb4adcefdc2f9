-- Bits and bytes that are put one after the other.
use Rattle.std.proofs.Common.{◌≡◌, ℕ, zero, suc, ◌+◌, ◌-◌, ◌*◌, ◌/◌, ◌%◌, ◌^◌, ◌<◌, ◌≤◌, true, false, ltb, List, [], ◌∷◌, ◌++◌, length, take, drop, set, append_assoc, refl, sym, ap, subst, ◌∙◌, arith, inl, inr}
use Rattle.std.proofs.lemmas.List.{take_all, take_more_set, length-set}
use Rattle.std.proofs.lemmas.Bool.{cases_lt, lt-ltb, le-ltb}
use Rattle.std.proofs.lemmas.Nat.{shr_below, shr_split, mod_below, mod-pow-add, pow_pos, pow-add}
use Rattle.std.proofs.Math.Nat.{pow-suc, mod-eq_of_lt}
use Rattle.std.specs.Prelude.{slice_range}
use Rattle.std.specs.Int.{w64, byte_at, bytes_high_first, to_be_bytes}
use Rattle.spec_bits.specs.Bits.{Bits, bits_of, all_bits}
use Rattle.spec_bits.specs.Leb.{leb_within, leb_bytes}
use Rattle.spec_bits.proofs.BitsLaws.{all_bits-append}
use Rattle.spec_bits.proofs.JoinLaws.{bits_of-join, join_below}

-- ---- whole bytes of a number

lowest_bytes : (k n x : ℕ) → n ≤ k → drop (k - n) (bytes_high_first k x) ≡ bytes_high_first n x
lowest_bytes zero n x le = let e : n ≡ 0 = omega arith in rw e refl
lowest_bytes (suc k) n x le = elim (cases_lt k n) [
  | inl all ↦
      let e : n ≡ suc k = omega arith in
      let none : suc k - n ≡ 0 = omega arith in
      rw (none, e) refl
  | inr fewer ↦
      let e : suc k - n ≡ suc (k - n) = omega arith in
      rw e (lowest_bytes k n x fewer)
]

pow_bytes : (k : ℕ) → 256 ^ k ≡ 2 ^ (8 * k)
pow_bytes zero = refl
pow_bytes (suc k) =
    let e : 8 * suc k ≡ 8 + 8 * k = omega arith in
    rw (e, pow-suc 256 k, pow-add 2 8 (8 * k), pow_bytes k) (omega arith)

length-bytes : (k x : ℕ) → length (bytes_high_first k x) ≡ k
length-bytes zero x = refl
length-bytes (suc k) x = ap suc (length-bytes k x)

byte_is : (k x : ℕ) → byte_at k x ≡ x / 2 ^ (8 * k) % 2 ^ 8
byte_is zero x = omega arith
byte_is (suc k) x = ap (λ (d : ℕ). x / d % 256) (pow_bytes (suc k))

bits_of-bytes : (k x : ℕ) → all_bits (bytes_high_first k x) ≡ bits_of (8 * k) (x % 2 ^ (8 * k))
unfolding all_bits bits_of
bits_of-bytes zero x = refl
bits_of-bytes (suc k) x =
    let e : 8 * suc k ≡ 8 + 8 * k = omega arith in
    let high : x / 2 ^ (8 * k) % 2 ^ 8 < 2 ^ 8 = mod_below _ _ (omega arith) in
    let low : x % 2 ^ (8 * k) < 2 ^ (8 * k) = mod_below _ _ (pow_pos (8 * k)) in
    ap (λ (n : ℕ). bits_of 8 n ++ all_bits (bytes_high_first k x)) (byte_is k x)
    ∙ ap (λ (b : Bits). bits_of 8 (x / 2 ^ (8 * k) % 2 ^ 8) ++ b) (bits_of-bytes k x)
    ∙ sym (bits_of-join 8 (8 * k) (x / 2 ^ (8 * k) % 2 ^ 8) (x % 2 ^ (8 * k)) high low)
    ∙ ap (λ (n : ℕ). bits_of (8 + 8 * k) n) (sym (mod-pow-add x 8 (8 * k)))
    ∙ ap (λ (n : ℕ). bits_of n (x % 2 ^ n)) (sym e)

-- the whole bytes of so many bits are put, and the bits after them are left
pub whole_put : (items : List ℕ) (used part n value : ℕ) → used < 8 → part < 2 ^ used → n ≤ 32 → value < 2 ^ n
    → all_bits (items ++ slice_range (to_be_bytes w64 ((part * 2 ^ n + value) / 2 ^ ((used + n) % 8))) (8 - (used + n) / 8) 8) ++ bits_of ((used + n) % 8) ((part * 2 ^ n + value) % 2 ^ ((used + n) % 8))
    ≡ (all_bits items ++ bits_of used part) ++ bits_of n value
whole_put items used part n value few small most fits =
    let bits : ℕ = part * 2 ^ n + value in
    let left : ℕ = (used + n) % 8 in
    let count : ℕ = (used + n) / 8 in
    let size : used + n ≡ 8 * count + left = omega arith in
    let below : part * 2 ^ n + value < 2 ^ (8 * count + left) = subst (λ (k : ℕ). part * 2 ^ n + value < 2 ^ k) size (join_below used n part value small fits) in
    let high : bits / 2 ^ left < 2 ^ (8 * count) = shr_below bits (8 * count) left below in
    let low : bits % 2 ^ left < 2 ^ left = mod_below bits (2 ^ left) (pow_pos left) in
    let lowest : slice_range (to_be_bytes w64 (bits / 2 ^ left)) (8 - count) 8 ≡ bytes_high_first count (bits / 2 ^ left) =
    ap (take (8 - (8 - count))) (lowest_bytes 8 count (bits / 2 ^ left) (omega arith)) ∙ take_all (8 - (8 - count)) (bytes_high_first count (bits / 2 ^ left)) (omega (arith, length-bytes count (bits / 2 ^ left))) in
    let bytes : all_bits (slice_range (to_be_bytes w64 (bits / 2 ^ left)) (8 - count) 8) ≡ bits_of (8 * count) (bits / 2 ^ left) =
    ap all_bits lowest ∙ bits_of-bytes count (bits / 2 ^ left) ∙ ap (bits_of (8 * count)) (mod-eq_of_lt high) in
    let joined : bits_of (8 * count) (bits / 2 ^ left) ++ bits_of left (bits % 2 ^ left) ≡ bits_of used part ++ bits_of n value =
    sym (bits_of-join (8 * count) left (bits / 2 ^ left) (bits % 2 ^ left) high low)
    ∙ ap (bits_of (8 * count + left)) (shr_split bits left)
    ∙ ap (λ (k : ℕ). bits_of k bits) (sym size)
    ∙ bits_of-join used n part value small fits in
    ap (λ (b : Bits). b ++ bits_of left (bits % 2 ^ left)) (all_bits-append items (slice_range (to_be_bytes w64 (bits / 2 ^ left)) (8 - count) 8) ∙ ap (λ (b : Bits). all_bits items ++ b) bytes)
    ∙ append_assoc (all_bits items) (bits_of (8 * count) (bits / 2 ^ left)) (bits_of left (bits % 2 ^ left))
    ∙ ap (λ (b : Bits). all_bits items ++ b) joined
    ∙ sym (append_assoc (all_bits items) (bits_of used part) (bits_of n value))

-- ---- the shortest leb128, byte by byte

-- with the bytes so far, the shortest bytes of what is left make those of the number
pub record IsHalfPut (bytes : List ℕ) (count rest value : ℕ) : Type 0 where
  pub fuel : ℕ
  pub room : length bytes ≡ 5
  pub few : count + fuel ≡ 4
  pub below : rest < 128 ^ suc fuel
  pub is : take count bytes ++ leb_within fuel rest ≡ leb_bytes value

pub half_put_start : (bytes : List ℕ) (value : ℕ) → length bytes ≡ 5 → value < 2 ^ 32 → IsHalfPut bytes 0 value value
unfolding leb_bytes
half_put_start bytes value room small = record { fuel = 4; room = room; few = refl; below = omega (arith, small); is = refl }

-- one byte more
pub half_put_more : (bytes : List ℕ) (count rest b value : ℕ) → 128 ≤ rest → b ≡ rest % 128 + 128 → IsHalfPut bytes count rest value → IsHalfPut (set bytes count b) (count + 1) (rest / 128) value
half_put_more bytes count rest b value large is h = go h.fuel h.few h.below h.is
  where
    go : (k : ℕ) → count + k ≡ 4 → rest < 128 ^ suc k → take count bytes ++ leb_within k rest ≡ leb_bytes value → IsHalfPut (set bytes count b) (count + 1) (rest / 128) value
    go zero few below e = absurd (omega arith)
    go (suc k) few below e =
        let t : ltb rest 128 ≡ false = le-ltb _ _ large in
        let same : b ≡ 128 + rest % 128 = omega arith in
        let within : count < length bytes = omega (arith, h.room) in
        record {
          fuel = k;
          room = omega (arith, h.room, length-set bytes count b);
          few = omega arith;
          below = omega (arith, pow-suc 128 (suc k));
          is = ap (λ (ys : List ℕ). ys ++ leb_within k (rest / 128)) (take_more_set bytes count b within)
              ∙ append_assoc (take count bytes) (b ∷ []) (leb_within k (rest / 128)) ∙ ap (λ (n : ℕ). take count bytes ++ n ∷ leb_within k (rest / 128)) same ∙ rw t at e;
        }

pub half_put_end : (bytes : List ℕ) (count rest value : ℕ) → rest < 128 → IsHalfPut bytes count rest value → take (count + 1) (set bytes count rest) ≡ leb_bytes value
half_put_end bytes count rest value small h = take_more_set bytes count rest (omega (arith, h.room, h.few)) ∙ go h.fuel h.is
  where
    go : (k : ℕ) → take count bytes ++ leb_within k rest ≡ leb_bytes value → take count bytes ++ rest ∷ [] ≡ leb_bytes value
    go zero e = e
    go (suc k) e = let t : ltb rest 128 ≡ true = lt-ltb _ _ small in rw t at e
