-- Reading a leb128 number byte by byte, as a loop does.
use Rattle.std.proofs.Common.{◌≡◌, ℕ, suc, ◌+◌, ◌-◌, ◌*◌, ◌%◌, ◌^◌, ◌<◌, ◌≤◌, List, length, get_or, drop, nat_lt, if◌then◌else◌, Result, Ok, Err, refl, sym, ap, ◌∙◌, arith, drop-cons}
use Rattle.std.proofs.lemmas.Bool.{lt-ltb, le-ltb}
use Rattle.std.proofs.lemmas.List.{drop_all}
use Rattle.std.proofs.Math.Nat.{pow-le-pow_right, mul-le-mul_right, pow-suc}
use Rattle.spec_bits.specs.declared.FieldFault.{FieldFault}
use Rattle.spec_bits.specs.declared.FieldFault.TheVariants.{Short, Leb}
use Rattle.spec_bits.specs.ByteReading.{◌>>=◌, groups_at, leb_at}

-- the number, where its low groups are known and the rest is still read
abbrev pub with_low : ℕ → ℕ → Result (ℕ × List ℕ) FieldFault → Result (ℕ × List ℕ) FieldFault
with_low value scale read = read >>= λ r. if nat_lt (value + scale * r.0) (2 ^ 32) then Ok (value + scale * r.0, r.1) else Err Leb

-- what the loop keeps
pub record IsHalfRead (bytes : List ℕ) (value scale i : ℕ) : Type 0 where
  pub scale_is : scale ≡ 128 ^ i
  pub below : value < scale
  pub within : i ≤ length bytes
  pub rest : with_low value scale (groups_at (8 - i) (drop i bytes)) ≡ leb_at bytes

begins : (read : Result (ℕ × List ℕ) FieldFault) → with_low 0 1 read ≡ (read >>= λ r. if nat_lt r.0 (2 ^ 32) then Ok r else Err Leb)
begins (Ok r) = let e : 0 + 1 * r.0 ≡ r.0 = omega arith in rw e
begins (Err f) = refl

pub is_begun : (bytes : List ℕ) → IsHalfRead bytes 0 1 0
unfolding leb_at
is_begun bytes = record { scale_is = refl; below = omega arith; within = omega arith; rest = begins (groups_at 8 bytes) }

-- one more group
grows : (value scale x : ℕ) (read : Result (ℕ × List ℕ) FieldFault)
    → with_low value scale (read >>= λ r. Ok (x % 128 + 128 * r.0, r.1)) ≡ with_low (value + x % 128 * scale) (scale * 128) read
grows value scale x (Ok r) = let e : value + scale * (x % 128 + 128 * r.0) ≡ value + x % 128 * scale + scale * 128 * r.0 = omega arith in rw e
grows value scale x (Err f) = refl

abbrev one_at : List ℕ → ℕ → Result (ℕ × List ℕ) FieldFault
one_at bytes i = groups_at (8 - i) (drop i bytes)

goes_on_at : (bytes : List ℕ) (i : ℕ) → i < 8 → i < length bytes → 128 ≤ get_or bytes i 0
    → one_at bytes i ≡ (one_at bytes (i + 1) >>= λ r. Ok (get_or bytes i 0 % 128 + 128 * r.0, r.1))
unfolding groups_at
goes_on_at bytes i few here more =
    let k : 8 - i ≡ suc (8 - (i + 1)) = omega arith in
    let n : i + 1 ≡ suc i = omega arith in
    rw (k, drop-cons bytes i 0 here, le-ltb (get_or bytes i 0) 128 more, n) refl

ends_at : (bytes : List ℕ) (i : ℕ) → i < 8 → i < length bytes → get_or bytes i 0 < 128
    → one_at bytes i ≡ Ok (get_or bytes i 0, drop (i + 1) bytes)
unfolding groups_at
ends_at bytes i few here last =
    let k : 8 - i ≡ suc (8 - (i + 1)) = omega arith in
    let n : i + 1 ≡ suc i = omega arith in
    rw (k, drop-cons bytes i 0 here, lt-ltb (get_or bytes i 0) 128 last, n) refl

pub is_short : (bytes : List ℕ) (value scale i : ℕ) → IsHalfRead bytes value scale i → i < 8 → length bytes ≤ i → leb_at bytes ≡ Err Short
unfolding groups_at
is_short bytes value scale i half few past =
    let k : 8 - i ≡ suc (8 - (i + 1)) = omega arith in
    sym half.rest ∙ rw (k, drop_all i bytes past) refl

pub is_endless : (bytes : List ℕ) (value scale i : ℕ) → IsHalfRead bytes value scale i → 8 ≤ i → leb_at bytes ≡ Err Leb
unfolding groups_at
is_endless bytes value scale i half many =
    let k : 8 - i ≡ 0 = omega arith in
    sym half.rest ∙ rw k refl

pub is_number : (bytes : List ℕ) (value scale i : ℕ) → IsHalfRead bytes value scale i → i < 8 → i < length bytes → get_or bytes i 0 < 128
    → value + get_or bytes i 0 % 128 * scale < 2 ^ 32 → leb_at bytes ≡ Ok (value + get_or bytes i 0 % 128 * scale, drop (i + 1) bytes)
is_number bytes value scale i half few here last small =
    let e : get_or bytes i 0 % 128 ≡ get_or bytes i 0 = omega arith in
    let m : value + scale * get_or bytes i 0 ≡ value + get_or bytes i 0 % 128 * scale = rw e (omega arith) in
    sym half.rest ∙ rw (ends_at bytes i few here last, m, lt-ltb _ _ small) refl

pub is_large : (bytes : List ℕ) (value scale i : ℕ) → IsHalfRead bytes value scale i → i < 8 → i < length bytes → get_or bytes i 0 < 128
    → 2 ^ 32 ≤ value + get_or bytes i 0 % 128 * scale → leb_at bytes ≡ Err Leb
is_large bytes value scale i half few here last large =
    let e : get_or bytes i 0 % 128 ≡ get_or bytes i 0 = omega arith in
    let m : value + scale * get_or bytes i 0 ≡ value + get_or bytes i 0 % 128 * scale = rw e (omega arith) in
    sym half.rest ∙ rw (ends_at bytes i few here last, m, le-ltb _ _ large) refl

-- the numbers stay small
pub fits : (bytes : List ℕ) (value scale i x : ℕ) → IsHalfRead bytes value scale i → i < 8 → (x % 128 * scale < 2 ^ 56) × (value + x % 128 * scale < 2 ^ 56) × (scale * 128 ≤ 2 ^ 56)
fits bytes value scale i x half few =
    let p : 128 ^ i ≤ 128 ^ 7 = let n : 0 < 128 = omega arith in let j : i ≤ 7 = omega arith in pow-le-pow_right n j in
    let s : scale ≤ 2 ^ 49 = rw half.scale_is p in
    let m : x % 128 * scale ≤ 127 * scale = mul-le-mul_right scale (omega arith) in
    (omega (arith, half.below), omega (arith, half.below), omega arith)

pub goes_on : (bytes : List ℕ) (value scale i : ℕ) → IsHalfRead bytes value scale i → i < 8 → i < length bytes → 128 ≤ get_or bytes i 0
    → IsHalfRead bytes (value + get_or bytes i 0 % 128 * scale) (scale * 128) (i + 1)
goes_on bytes value scale i half few here more =
    let n : i + 1 ≡ suc i = omega arith in
    let m : get_or bytes i 0 % 128 * scale ≤ 127 * scale = mul-le-mul_right scale (omega arith) in
    record {
      scale_is = rw (n, pow-suc, half.scale_is) refl;
      below = omega (arith, half.below);
      within = omega arith;
      rest = sym (grows value scale (get_or bytes i 0) (one_at bytes (i + 1))) ∙ ap (with_low value scale) (sym (goes_on_at bytes i few here more)) ∙ half.rest;
    }
