-- A place in a part of a buffer, and the fields there.
use Rattle.std.proofs.Common.{◌≡◌, ℕ, zero, suc, ◌+◌, ◌-◌, ◌*◌, ◌/◌, ◌<◌, ◌≤◌, Bool, true, false, ltb, List, [], ◌∷◌, length, get_or, take, drop, Result, Ok, Err, refl, sym, ap, ◌∙◌, arith}
use Rattle.std.specs.Prelude.{slice_range}
use Rattle.std.proofs.lemmas.Bool.{lt-ltb, le-ltb}
use Rattle.std.proofs.lemmas.List.{length-take-le, length-drop, drop-drop, drop-take}
use Rattle.spec_bits.specs.declared.FieldFault.{FieldFault}
use Rattle.spec_bits.specs.declared.FieldFault.TheVariants.{Short}
use Rattle.spec_bits.specs.Bits.{Bits, AreBytes, number_of, all_bits}
use Rattle.spec_bits.specs.ByteReading.{◌>>=◌, leb_at, text_at, bytes_at}
use Rattle.spec_bits.specs.Form.{Number, Leb128, String, Bytes, Reserved}
use Rattle.spec_bits.specs.Cursor.{Cursor, bits_left, bytes_left, bytes_of, moved, field_at, field_front, in_bytes}
use Rattle.spec_bits.proofs.Outcomes.{done, ok_both_is}
use Rattle.spec_bits.proofs.BitsLaws.{length-all_bits, drop-all_bits}
use Rattle.spec_bits.proofs.ByteForms.{bytes_of-all_bits}

pub AreBytes-from : (xs : List ℕ) → ((i : ℕ) → get_or xs i 0 < 256) → AreBytes xs
AreBytes-from [] h = tt
AreBytes-from (x ∷ xs) h = (h 0, AreBytes-from xs (λ i. h (suc i)))

pub AreBytes-take : (n : ℕ) (xs : List ℕ) → AreBytes xs → AreBytes (take n xs)
AreBytes-take zero xs are = tt
AreBytes-take (suc n) [] are = tt
AreBytes-take (suc n) (x ∷ xs) are = (are.0, AreBytes-take n xs are.1)

-- the place after `used` bits of the byte `at`, in a buffer that is read up to `end`
abbrev pub cursor : List ℕ → ℕ → ℕ → ℕ → Cursor
cursor buf end at used = record { bytes = take end buf; place = 8 * at + used }

drop-part : (buf : List ℕ) (end at : ℕ) → at ≤ end → drop at (take end buf) ≡ slice_range buf at end
drop-part buf end at le =
    let e : end ≡ at + (end - at) = omega arith in
    ap (λ (k : ℕ). drop at (take k buf)) e ∙ drop-take at (end - at) buf

pub length-span : (buf : List ℕ) (at end : ℕ) → end ≤ length buf → length (slice_range buf at end) ≡ end - at
length-span buf at end le = length-take-le (end - at) (drop at buf) (omega (arith, length-drop at buf))

pub bits_left-is : (buf : List ℕ) (end at used : ℕ) → at ≤ end → bits_left (cursor buf end at used) ≡ drop used (all_bits (slice_range buf at end))
bits_left-is buf end at used le =
    sym (drop-drop used (8 * at) (all_bits (take end buf))) ∙ ap (drop used) (drop-all_bits at (take end buf)) ∙ ap (λ (xs : List ℕ). drop used (all_bits xs)) (drop-part buf end at le)

pub length-bits_left : (buf : List ℕ) (end at used : ℕ) → at ≤ end → end ≤ length buf → length (bits_left (cursor buf end at used)) ≡ 8 * (end - at) - used
length-bits_left buf end at used le within =
    ap length (bits_left-is buf end at used le) ∙ omega (arith, length-drop used (all_bits (slice_range buf at end)), length-all_bits (slice_range buf at end), length-span buf at end within)

pub bytes_left-is : (buf : List ℕ) (end at used : ℕ) → used < 8 → at ≤ end → bytes_left (cursor buf end at used) ≡ slice_range buf at end
bytes_left-is buf end at used small le =
    let k : (8 * at + used) / 8 ≡ at = omega arith in
    ap (λ (i : ℕ). drop i (take end buf)) k ∙ drop-part buf end at le

-- ---- numbers

pub number_short : (buf : List ℕ) (end at used n : ℕ) → at ≤ end → end ≤ length buf → 8 * (end - at) - used < n → field_at (Number n) (cursor buf end at used) ≡ Err Short
unfolding field_at field_front
number_short buf end at used n le within lt =
    let t : ltb (length (bits_left (cursor buf end at used))) n ≡ true = lt-ltb _ _ (omega (arith, length-bits_left buf end at used le within)) in
    rw t refl

pub number_found : (buf : List ℕ) (end at used n v : ℕ) → at ≤ end → end ≤ length buf → n ≤ 8 * (end - at) - used → number_of (take n (drop used (all_bits (slice_range buf at end)))) ≡ v
    → field_at (Number n) (cursor buf end at used) ≡ Ok (v, moved (cursor buf end at used) n)
unfolding field_at field_front
number_found buf end at used n v le within enough is =
    let t : ltb (length (bits_left (cursor buf end at used))) n ≡ false = le-ltb _ _ (omega (arith, length-bits_left buf end at used le within)) in
    let value : number_of (take n (bits_left (cursor buf end at used))) ≡ v = ap (λ (b : Bits). number_of (take n b)) (bits_left-is buf end at used le) ∙ is in
    rw (t, value) refl

-- the same bits, whatever they are
pub reserved_there : (k v : ℕ) (c d : Cursor) → field_at (Number k) c ≡ Ok (v, d) → field_at (Reserved k) c ≡ Ok (tt, d)
unfolding field_at field_front
reserved_there k v c d e = go (ltb (length (bits_left c)) k) refl
  where
    same : (front : ℕ) (c d : Cursor) → done {A = ℕ × Cursor} {F = FieldFault} (front, c) ≡ done (v, d) → c ≡ d
    same front c d e = (ok_both_is (front, c) (v, d) e).1

    go : (b : Bool) → ltb (length (bits_left c)) k ≡ b → field_at (Reserved k) c ≡ Ok (tt, d)
    go true t = absurd (let no = rw t at e in cc)
    go false t = rw t (ap (λ (x : Cursor). Ok (tt, x)) (same (number_of (take k (bits_left c))) (moved c k) d (rw t at e)))

pub reserved_short : (k : ℕ) (c : Cursor) (f : FieldFault) → field_at (Number k) c ≡ Err f → field_at (Reserved k) c ≡ Err f
unfolding field_at field_front
reserved_short k c f e = go (ltb (length (bits_left c)) k) refl
  where
    go : (b : Bool) → ltb (length (bits_left c)) k ≡ b → field_at (Reserved k) c ≡ Err f
    go true t = rw t (let same = rw t at e in cc)
    go false t = absurd (let no = rw t at e in cc)

-- ---- byte fields: on a byte they are read from the bytes there

-- the bytes that are left, as the bits that are left
pub bits_left-bytes : (buf : List ℕ) (end at : ℕ) → at ≤ end → bits_left (cursor buf end at 0) ≡ all_bits (slice_range buf at end)
bits_left-bytes buf end at le = bits_left-is buf end at 0 le

span_rest : (buf : List ℕ) (at n end : ℕ) → n ≤ end - at → slice_range buf (at + n) end ≡ drop n (slice_range buf at end)
span_rest buf at n end le =
    let k : end - at ≡ n + (end - (at + n)) = omega arith in
    rw (k, drop-take n (end - (at + n)) (drop at buf), drop-drop n at buf) refl

-- the place after so many bits
abbrev pub placed : {A : Type 0} → Cursor → Result (A × ℕ) FieldFault → Result (A × Cursor) FieldFault
placed c read = read >>= λ r. Ok (r.0, moved c r.1)

-- what a byte field gives in a part of a buffer: the value and the place after it
pub record Found {A : Type 0} (buf : List ℕ) (end at n : ℕ) (v : A) (front : Bits → Result (A × ℕ) FieldFault) (read : List ℕ → Result (A × List ℕ) FieldFault) : Type 0 where
  pub takes : placed (cursor buf end at 0) (front (bits_left (cursor buf end at 0))) ≡ Ok (v, cursor buf end (at + n) 0)
  pub bytes : read (bytes_left (cursor buf end at 0)) ≡ Ok (v, bytes_left (cursor buf end (at + n) 0))

field_found : {A : Type 0} (buf : List ℕ) (end at n : ℕ) (v : A) (front : Bits → Result (A × ℕ) FieldFault) (read : List ℕ → Result (A × List ℕ) FieldFault)
    → ((bits : Bits) → front bits ≡ in_bytes (bytes_of bits) (read (bytes_of bits)))
    → at ≤ end → end ≤ length buf → AreBytes (slice_range buf at end) → n ≤ end - at → read (slice_range buf at end) ≡ Ok (v, drop n (slice_range buf at end)) → Found buf end at n v front read
field_found {A} buf end at n v front read is le within are few e =
    let span : List ℕ = slice_range buf at end in
    let bits : bits_left (cursor buf end at 0) ≡ all_bits span = bits_left-bytes buf end at le in
    let same : front (bits_left (cursor buf end at 0)) ≡ in_bytes span (read span) =
    ap front bits ∙ is (all_bits span) ∙ ap (λ (ys : List ℕ). in_bytes ys (read ys)) (bytes_of-all_bits span are) in
    let len : 8 * length span - 8 * length (drop n span) ≡ 8 * n = omega (arith, length-drop n span, length-span buf at end within) in
    let place : 8 * at + 0 + 8 * n ≡ 8 * (at + n) + 0 = omega arith in
    let end_ : moved (cursor buf end at 0) (8 * length span - 8 * length (drop n span)) ≡ cursor buf end (at + n) 0 = ap (moved (cursor buf end at 0)) len ∙ ap (λ (p : ℕ). record { bytes = take end buf; place = p }) place in
    let there : in_bytes span (read span) ≡ Ok (v, 8 * length span - 8 * length (drop n span)) = ap (in_bytes span) e in
    record {
      takes = ap (placed (cursor buf end at 0)) (same ∙ there) ∙ ap (λ (c : Cursor). Ok (v, c)) end_;
      bytes = ap read (bytes_left-is buf end at 0 (omega arith) le) ∙ e ∙ ap (λ (ys : List ℕ). Ok (v, ys)) (sym (bytes_left-is buf end (at + n) 0 (omega arith) (omega arith) ∙ span_rest buf at n end few));
    }

-- and where it gives none
pub record Fails {A : Type 0} (buf : List ℕ) (end at : ℕ) (f : FieldFault) (front : Bits → Result (A × ℕ) FieldFault) (read : List ℕ → Result (A × List ℕ) FieldFault) : Type 0 where
  pub takes : placed (cursor buf end at 0) (front (bits_left (cursor buf end at 0))) ≡ Err f
  pub bytes : read (bytes_left (cursor buf end at 0)) ≡ Err f

field_fails : {A : Type 0} (buf : List ℕ) (end at : ℕ) (f : FieldFault) (front : Bits → Result (A × ℕ) FieldFault) (read : List ℕ → Result (A × List ℕ) FieldFault)
    → ((bits : Bits) → front bits ≡ in_bytes (bytes_of bits) (read (bytes_of bits)))
    → at ≤ end → AreBytes (slice_range buf at end) → read (slice_range buf at end) ≡ Err f → Fails buf end at f front read
field_fails {A} buf end at f front read is le are e =
    let span : List ℕ = slice_range buf at end in
    let bits : bits_left (cursor buf end at 0) ≡ all_bits span = bits_left-bytes buf end at le in
    let same : front (bits_left (cursor buf end at 0)) ≡ in_bytes span (read span) =
    ap front bits ∙ is (all_bits span) ∙ ap (λ (ys : List ℕ). in_bytes ys (read ys)) (bytes_of-all_bits span are) in
    record {
      takes = ap (placed (cursor buf end at 0)) (same ∙ ap (in_bytes span) e);
      bytes = ap read (bytes_left-is buf end at 0 (omega arith) le) ∙ e;
    }

pub leb_found : (buf : List ℕ) (end at n v : ℕ) → at ≤ end → end ≤ length buf → AreBytes (slice_range buf at end) → n ≤ end - at → leb_at (slice_range buf at end) ≡ Ok (v, drop n (slice_range buf at end))
    → Found buf end at n v (field_front Leb128) leb_at
unfolding field_front
leb_found buf end at n v = field_found buf end at n v (field_front Leb128) leb_at (λ bits. refl)

pub leb_fails : (buf : List ℕ) (end at : ℕ) (f : FieldFault) → at ≤ end → AreBytes (slice_range buf at end) → leb_at (slice_range buf at end) ≡ Err f → Fails buf end at f (field_front Leb128) leb_at
unfolding field_front
leb_fails buf end at f = field_fails buf end at f (field_front Leb128) leb_at (λ bits. refl)

pub text_found : (buf : List ℕ) (end at n : ℕ) (v : List ℕ) → at ≤ end → end ≤ length buf → AreBytes (slice_range buf at end) → n ≤ end - at → text_at (slice_range buf at end) ≡ Ok (v, drop n (slice_range buf at end))
    → Found buf end at n v (field_front String) text_at
unfolding field_front
text_found buf end at n v = field_found buf end at n v (field_front String) text_at (λ bits. refl)

pub text_fails : (buf : List ℕ) (end at : ℕ) (f : FieldFault) → at ≤ end → AreBytes (slice_range buf at end) → text_at (slice_range buf at end) ≡ Err f → Fails buf end at f (field_front String) text_at
unfolding field_front
text_fails buf end at f = field_fails buf end at f (field_front String) text_at (λ bits. refl)

pub bytes_found : (buf : List ℕ) (end at n : ℕ) → at ≤ end → end ≤ length buf → AreBytes (slice_range buf at end) → n ≤ end - at
    → Found buf end at n (take n (slice_range buf at end)) (field_front (Bytes n)) (bytes_at n)
unfolding field_front bytes_at
bytes_found buf end at n le within are few =
    let t : ltb (length (slice_range buf at end)) n ≡ false = le-ltb _ _ (omega (arith, length-span buf at end within)) in
    field_found buf end at n (take n (slice_range buf at end)) (field_front (Bytes n)) (bytes_at n) (λ bits. refl) le within are few (rw t refl)

pub bytes_fail : (buf : List ℕ) (end at n : ℕ) → at ≤ end → AreBytes (slice_range buf at end) → length (slice_range buf at end) < n
    → Fails buf end at Short (field_front (Bytes n)) (bytes_at n)
unfolding field_front bytes_at
bytes_fail buf end at n le are lt =
    let t : ltb (length (slice_range buf at end)) n ≡ true = lt-ltb _ _ lt in
    field_fails buf end at Short (field_front (Bytes n)) (bytes_at n) (λ bits. refl) le are (rw t refl)
