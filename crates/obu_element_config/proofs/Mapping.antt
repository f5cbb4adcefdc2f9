-- Bytes that are read and tested one after the other.
use Rattle.std.proofs.Common.{◌≡◌, ℕ, zero, suc, ◌+◌, ◌*◌, ◌/◌, ◌<◌, ◌≤◌, Bool, true, false, List, [], ◌∷◌, ◌++◌, length, Result, Ok, Err, refl, ap, ◌∙◌, arith, append_assoc, length-drop}
use Rattle.std.specs.Prelude.{not, ◌&&◌, ◌||◌, ◌==◌, nat_lt, if◌then◌else◌}
use Rattle.std.specs.List.{list_all}
use Rattle.std.proofs.lemmas.List.{append-nil}
use Rattle.spec_bits.specs.declared.FieldFault.TheVariants.{Short}
use Rattle.spec_bits.specs.Bits.{Bits, AreBytes, bits_of, all_bits}
use Rattle.spec_bits.specs.Form.{Number}
use Rattle.spec_bits.specs.Cursor.{Cursor, IsOnByte, bits_left, bytes_left, moved, field_at}
use Rattle.spec_bits.proofs.BitsLaws.{length-bits_of, number_of-bits_of, length-all_bits}
use Rattle.spec_bits.proofs.FormLaws.{form_reads}
use Rattle.spec_syntax.specs.Syntax.{each}
use Rattle.spec_syntax.specs.Reading.{read}
use Rattle.spec_syntax.proofs.Places.{left_moved}
use Rattle.spec_descriptors.specs.declared.fault.DescriptorFault.{DescriptorFault}
use Rattle.spec_descriptors.specs.declared.fault.DescriptorFault.TheVariants as fault
use Rattle.spec_descriptors.specs.Ambisonics.{mapping_in}

-- ---- one byte

pub byte_there : (c : Cursor) (x : ℕ) (rest : Bits) → x < 256 → bits_left c ≡ bits_of 8 x ++ rest → field_at (Number 8) c ≡ Ok (x, moved c 8)
unfolding field_at
byte_there c x rest small e =
    rw (e, (form_reads (Number 8)).again (bits_of 8 x) rest x (length-bits_of 8 x, number_of-bits_of 8 x small), length-bits_of 8 x) refl

pub byte_next : (c : Cursor) (x : ℕ) (rest : Bits) → bits_left c ≡ bits_of 8 x ++ rest → bits_left (moved c 8) ≡ rest
byte_next c x rest e = rw (length-bits_of 8 x) at (left_moved c (bits_of 8 x) rest e)

pub byte_short : (c : Cursor) → length (bits_left c) < 8 → field_at (Number 8) c ≡ Err Short
unfolding field_at
byte_short c few = rw ((form_reads (Number 8)).only (bits_left c) Short (refl, few)) refl

pub length-left : (c : Cursor) → IsOnByte c → length (bits_left c) ≡ 8 * length (bytes_left c)
length-left c on = omega (arith, length-drop c.place (all_bits c.bytes), length-drop (c.place / 8) c.bytes, length-all_bits c.bytes)

-- ---- the bytes of a mapping

abbrev pub is_mapped : ℕ → ℕ → Bool
is_mapped substreams n = n == 255 || nat_lt n substreams

and_left : (a b : Bool) → a && b ≡ true → a ≡ true
and_left true b e = refl
and_left false b e = absurd cc

and_right : (a b : Bool) → a && b ≡ true → b ≡ true
and_right true b e = e
and_right false b e = absurd cc

moved_twice : (c : Cursor) (n : ℕ) → moved (moved c 8) (8 * n) ≡ moved c (8 * suc n)
moved_twice c n = let e : (c.place + 8) + 8 * n ≡ c.place + 8 * suc n = omega arith in ap (λ (k : ℕ). record { bytes = c.bytes; place = k }) e

pub mapping_reads : (substreams n : ℕ) (c : Cursor) (before xs : List ℕ) (rest : Bits) → bits_left c ≡ all_bits xs ++ rest → length xs ≡ n → AreBytes xs → list_all (is_mapped substreams) xs ≡ true
    → read (λ f. fault.Field f) (each n (mapping_in substreams) before) c ≡ Ok (before ++ xs, moved c (8 * n))
unfolding each all_bits
mapping_reads substreams zero c before [] rest e len are good =
    let place : c.place + 0 ≡ c.place = omega arith in
    rw (append-nil, place) refl
mapping_reads substreams zero c before (x ∷ xs) rest e len are good = absurd (omega arith)
mapping_reads substreams (suc n) c before [] rest e len are good = absurd (omega arith)
mapping_reads substreams (suc n) c before (x ∷ xs) rest e len are good =
    let whole : bits_left c ≡ bits_of 8 x ++ (all_bits xs ++ rest) = e ∙ append_assoc (bits_of 8 x) (all_bits xs) rest in
    let now : is_mapped substreams x ≡ true = and_left _ _ good in
    rw (byte_there c x (all_bits xs ++ rest) are.0 whole, now)
    (mapping_reads substreams n (moved c 8) (before ++ x ∷ []) xs rest (byte_next c x (all_bits xs ++ rest) whole) (omega arith) are.1 (and_right _ _ good)
    ∙ rw (moved_twice c n, append_assoc before (x ∷ []) xs) refl)

pub mapping_ends : (substreams n : ℕ) (c : Cursor) (before xs : List ℕ) (rest : Bits) → bits_left c ≡ all_bits xs ++ rest → length rest < 8 → length xs < n → AreBytes xs
    → list_all (is_mapped substreams) xs ≡ true → read (λ f. fault.Field f) (each n (mapping_in substreams) before) c ≡ Err (fault.Field Short)
unfolding each all_bits
mapping_ends substreams zero c before xs rest e few lt are good = absurd (omega arith)
mapping_ends substreams (suc n) c before [] rest e few lt are good =
    rw (byte_short c (rw e few)) refl
mapping_ends substreams (suc n) c before (x ∷ xs) rest e few lt are good =
    let whole : bits_left c ≡ bits_of 8 x ++ (all_bits xs ++ rest) = e ∙ append_assoc (bits_of 8 x) (all_bits xs) rest in
    let now : is_mapped substreams x ≡ true = and_left _ _ good in
    rw (byte_there c x (all_bits xs ++ rest) are.0 whole, now)
    (mapping_ends substreams n (moved c 8) (before ++ x ∷ []) xs rest (byte_next c x (all_bits xs ++ rest) whole) few (omega arith) are.1 (and_right _ _ good))

fails_there : (b good : Bool) (r : Result (List ℕ × Cursor) DescriptorFault) → b && good ≡ false → (good ≡ false → r ≡ Err fault.Ambisonics)
    → (if not b then Err fault.Ambisonics else r) ≡ Err fault.Ambisonics
fails_there true good r e later = later e
fails_there false good r e later = refl

pub mapping_fails : (substreams n : ℕ) (c : Cursor) (before xs : List ℕ) (rest : Bits) → bits_left c ≡ all_bits xs ++ rest → length xs ≤ n → AreBytes xs
    → list_all (is_mapped substreams) xs ≡ false → read (λ f. fault.Field f) (each n (mapping_in substreams) before) c ≡ Err fault.Ambisonics
unfolding each all_bits
mapping_fails substreams n c before [] rest e le are bad = absurd cc
mapping_fails substreams zero c before (x ∷ xs) rest e le are bad = absurd (omega arith)
mapping_fails substreams (suc n) c before (x ∷ xs) rest e le are bad =
    let whole : bits_left c ≡ bits_of 8 x ++ (all_bits xs ++ rest) = e ∙ append_assoc (bits_of 8 x) (all_bits xs) rest in
    rw (byte_there c x (all_bits xs ++ rest) are.0 whole)
    (fails_there (is_mapped substreams x) (list_all (is_mapped substreams) xs) (read (λ f. fault.Field f) (each n (mapping_in substreams) (before ++ x ∷ [])) (moved c 8)) bad
    (λ later. mapping_fails substreams n (moved c 8) (before ++ x ∷ []) xs rest (byte_next c x (all_bits xs ++ rest) whole) (omega arith) are.1 later))
