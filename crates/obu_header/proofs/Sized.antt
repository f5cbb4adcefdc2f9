-- A header whose size was read.
use Rattle.std.proofs.Common.{◌≡◌, ℕ, suc, ◌+◌, ◌-◌, ◌*◌, ◌/◌, ◌^◌, ◌<◌, ◌≤◌, true, false, List, length, get_or, take, drop, Result, Ok, Err, refl, ap, ◌∙◌, arith, drop-cons, length-drop}
use Rattle.std.proofs.lemmas.Bool.{lt-ltb, le-ltb}
use Rattle.std.proofs.lemmas.List.{take_all}
use Rattle.spec_bits.specs.Cursor.{Cursor, bytes_left}
use Rattle.spec_bits.specs.declared.FieldFault.{FieldFault}
use Rattle.spec_bits.specs.ByteReading.{leb_at, bytes_at}
use Rattle.spec_obu.specs.declared.HeaderFault.TheVariants.{Flags, ObuSize}
use Rattle.spec_obu.specs.Header.{flags_allowed}
use Rattle.spec_obu.specs.Reading.{header_at, after_size, part}

-- the first byte, and the bytes after it
pub is_after : (xs rest : List ℕ) (at : ℕ) (r : Result (ℕ × List ℕ) FieldFault) → at < length xs → rest ≡ drop (at + 1) xs
    → leb_at rest ≡ r → header_at (drop at xs) ≡ after_size (get_or xs at 0) (drop (at + 1) xs) r
unfolding header_at
is_after xs rest at r here is_rest read =
    let n : at + 1 ≡ suc at = omega arith in
    let leb : leb_at (drop (at + 1) xs) ≡ r = rw (← is_rest) read in
    rw (drop-cons xs at 0 here, ← n) (ap (after_size (get_or xs at 0) (drop (at + 1) xs)) leb)

-- a size was read, and the whole has this length
pub record IsSized (xs : List ℕ) (at size : ℕ) (rest : List ℕ) (len : ℕ) : Type 0 where
  pub reads : header_at (drop at xs) ≡ after_size (get_or xs at 0) (drop (at + 1) xs) (Ok (size, rest))
  pub len_is : 1 + (length (drop (at + 1) xs) - length rest) + size ≡ len

pub is_sized : (xs view rest : List ℕ) (at size place : ℕ) → at < length xs → view ≡ drop (at + 1) xs
    → leb_at view ≡ Ok (size, rest) → at + 1 ≤ place → place + length rest ≡ length xs → IsSized xs at size rest (place - at + size)
is_sized xs view rest at size place here is_view read onward placed =
    record { reads = is_after xs view at (Ok (size, rest)) here is_view read; len_is = omega (arith, length-drop (at + 1) xs) }

pub too_large : (xs : List ℕ) (at size : ℕ) (rest : List ℕ) (len : ℕ) → IsSized xs at size rest len → 2 ^ 21 < len → header_at (drop at xs) ≡ Err ObuSize
too_large xs at size rest len sized large = sized.reads ∙ rw (sized.len_is, lt-ltb (2 ^ 21) len large) refl

pub not_allowed : (xs : List ℕ) (at size : ℕ) (rest : List ℕ) (len : ℕ) → IsSized xs at size rest len → len ≤ 2 ^ 21 → flags_allowed (get_or xs at 0) ≡ false
    → header_at (drop at xs) ≡ Err Flags
not_allowed xs at size rest len sized small flags = sized.reads ∙ rw (sized.len_is, le-ltb (2 ^ 21) len small, flags) refl

pub is_part : (xs : List ℕ) (at size : ℕ) (rest : List ℕ) (len : ℕ) → IsSized xs at size rest len → len ≤ 2 ^ 21 → flags_allowed (get_or xs at 0) ≡ true
    → (r : Result (List ℕ × List ℕ) FieldFault) → bytes_at size rest ≡ r → header_at (drop at xs) ≡ part (get_or xs at 0) len r
is_part xs at size rest len sized small flags r read = sized.reads ∙ rw (sized.len_is, le-ltb (2 ^ 21) len small, flags, read) refl

-- the view of all bytes from a place on
pub begins : (xs : List ℕ) (at : ℕ) (c : Cursor) → c.bytes ≡ take (length xs) xs → c.place ≡ 8 * (at + 1) → (c.bytes ≡ xs) × (bytes_left c ≡ drop (at + 1) xs)
begins xs at c bytes place =
    let all : c.bytes ≡ xs = bytes ∙ take_all (length xs) xs (omega arith) in
    let k : c.place / 8 ≡ at + 1 = omega arith in
    (all, ap (λ (n : ℕ). drop n c.bytes) k ∙ ap (drop (at + 1)) all)

-- where a view stands, and how many bytes it has left
pub stands : (xs : List ℕ) (c : Cursor) (at : ℕ) → c.bytes ≡ xs → at ≡ c.place / 8 → at ≤ length c.bytes → at + length (bytes_left c) ≡ length xs
stands xs c at all is within = omega (arith, ap length all, length-drop (c.place / 8) c.bytes)

-- the size that a view from a place on has taken
pub size_taken : (xs : List ℕ) (at size place : ℕ) (old new : Cursor) → at < length xs → old.bytes ≡ take (length xs) xs → old.place ≡ 8 * (at + 1)
    → leb_at (bytes_left old) ≡ Ok (size, bytes_left new) → new.bytes ≡ old.bytes → old.place ≤ new.place → place ≡ new.place / 8 → place ≤ length new.bytes
    → IsSized xs at size (bytes_left new) (place - at + size)
size_taken xs at size place old new here bytes starts read same onward is within =
    let b = begins xs at old bytes starts in
    is_sized xs (bytes_left old) (bytes_left new) at size place here b.1 read (omega arith) (stands xs new place (same ∙ b.0) is within)

-- and where it could not be taken
pub size_fails : (xs : List ℕ) (at : ℕ) (old : Cursor) (f : FieldFault) → at < length xs → old.bytes ≡ take (length xs) xs → old.place ≡ 8 * (at + 1) → leb_at (bytes_left old) ≡ Err f
    → header_at (drop at xs) ≡ after_size (get_or xs at 0) (drop (at + 1) xs) (Err f)
size_fails xs at old f here bytes starts read = is_after xs (bytes_left old) at (Err f) here (begins xs at old bytes starts).1 read
