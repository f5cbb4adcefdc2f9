-- A header is read exactly on its spellings.
use Rattle.std.proofs.Common.{◌≡◌, ℕ, zero, suc, ◌+◌, ◌-◌, ◌*◌, ◌/◌, ◌%◌, ◌^◌, ◌<◌, ◌≤◌, inl, inr, Bool, true, false, ◌==◌, List, [], ◌∷◌, ◌++◌, length, take, drop, is_some, Ok, refl, sym, ap, ◌∙◌, arith, append_assoc, length-append}
use Rattle.std.proofs.lemmas.List.{length-take}
use Rattle.std.proofs.lemmas.Bool.{cases_lt, le-ltb}
use Rattle.spec_bits.specs.Leb.{IsLeb}
use Rattle.spec_bits.specs.ByteReading.{leb_at}
use Rattle.spec_bits.proofs.LebLaws.{leb_again}
use Rattle.spec_obu.specs.Header.{Head, Header, first_byte, digit, IsTrim, IsExtension, kind_of, is_redundant, is_trimmed, is_extended, flags_allowed}
use Rattle.spec_obu.specs.Reading.{Front, fields_at, after_size, header_at}
use Rattle.spec_obu.specs.Laws.{HeaderIsRead, HeaderIsReadAgain}
use Rattle.spec_obu.proofs.FieldLaws.{bytes_again, trim_again, extension_again, fields_read}
use Rattle.spec_obu.proofs.FaultLaws.{Opened, open_ok}

-- ---- the first byte

digit-odd : (k : ℕ) → digit (k % 2 == 1) ≡ k % 2
digit-odd k =
    elim (cases_lt (k % 2) 1) [
      | inl lt ↦ let e : k % 2 ≡ 0 = omega arith in rw e refl
      | inr le ↦ let e : k % 2 ≡ 1 = omega arith in rw e refl
    ]

digit_back : (b : Bool) → (digit b == 1) ≡ b
digit_back true = refl
digit_back false = refl

digit_small : (b : Bool) → digit b < 2
digit_small true = omega arith
digit_small false = omega arith

first_byte_of : (x : ℕ) (h : Head) → h.kind ≡ kind_of x → h.redundant ≡ is_redundant x → is_some h.trim ≡ is_trimmed x → is_some h.extension ≡ is_extended x → first_byte h ≡ x
first_byte_of x h k r t e =
    rw (k, r, t, e, digit-odd (x / 4), digit-odd (x / 2), digit-odd x) (omega arith)

parts_back : (k r t e : ℕ) → r < 2 → t < 2 → e < 2
    → ((8 * k + 4 * r + 2 * t + e) / 8 ≡ k) × ((8 * k + 4 * r + 2 * t + e) / 4 % 2 ≡ r) × ((8 * k + 4 * r + 2 * t + e) / 2 % 2 ≡ t) × ((8 * k + 4 * r + 2 * t + e) % 2 ≡ e)
parts_back k r t e a b c = (omega arith, omega arith, omega arith, omega arith)

pub record FirstParts (h : Head) : Type 0 where
  pub kind : kind_of (first_byte h) ≡ h.kind
  pub redundant : is_redundant (first_byte h) ≡ h.redundant
  pub trimmed : is_trimmed (first_byte h) ≡ is_some h.trim
  pub extended : is_extended (first_byte h) ≡ is_some h.extension

first_parts : (h : Head) → FirstParts h
first_parts h =
    let p = parts_back h.kind (digit h.redundant) (digit (is_some h.trim)) (digit (is_some h.extension)) (digit_small h.redundant) (digit_small (is_some h.trim)) (digit_small (is_some h.extension)) in
    record {
      kind = p.0;
      redundant = rw p.1 (digit_back h.redundant);
      trimmed = rw p.2 (digit_back (is_some h.trim));
      extended = rw p.3 (digit_back (is_some h.extension));
    }

-- ---- the whole

take-nothing : (n : ℕ) → take {A = ℕ} n [] ≡ []
take-nothing zero = refl
take-nothing (suc n) = refl

take-plus : (i n : ℕ) (xs : List ℕ) → take (i + n) xs ≡ take i xs ++ take n (drop i xs)
take-plus zero n xs = let e : 0 + n ≡ n = omega arith in rw e refl
take-plus (suc i) n [] = take-nothing (suc i + n) ∙ sym (take-nothing n)
take-plus (suc i) n (x ∷ xs) = let e : suc i + n ≡ suc (i + n) = omega arith in rw e (ap (λ (ys : List ℕ). x ∷ ys) (take-plus i n xs))

opened_is : (x : ℕ) (after : List ℕ) (y : Front) → x < 256 → Opened x after y → (y.2 ≤ length (x ∷ after)) × Header y.0 y.1 (take y.2 (x ∷ after))
opened_is x after y small o =
    let f = fields_read x (take o.value o.rest) (y.0, y.1) o.fields in
    let first : first_byte y.0 ≡ x = first_byte_of x y.0 f.kind f.redundant f.trimmed f.extended in
    let len : y.2 ≡ suc (o.count + o.value) = omega (arith, o.len) in
    let body_len : length (f.trim ++ (f.extension ++ y.1)) ≡ o.value = omega (arith, ap length f.parts, length-take o.value o.rest, o.room) in
    let size_len : length (take o.count after) ≡ o.count = omega (arith, length-take o.count after, o.size.size.there) in
    let tail : take (o.count + o.value) after ≡ take o.count after ++ (f.trim ++ (f.extension ++ y.1)) =
    take-plus o.count o.value after ∙ ap (λ (t : List ℕ). take o.count after ++ take o.value t) o.size.rest_is ∙ ap (λ (t : List ℕ). take o.count after ++ t) f.parts in
    let bytes : take y.2 (x ∷ after) ≡ first_byte y.0 ∷ (take o.count after ++ (f.trim ++ (f.extension ++ y.1))) = rw (len, first, tail) refl in (
      omega (arith, o.len, o.room, o.size.len),
      record {
        size = take o.count after;
        trim = f.trim;
        extension = f.extension;
        bytes = bytes;
        size_is = record { ends = o.size.size.ends; short = omega (arith, size_len, o.size.size.few); value = o.size.size.value ∙ sym body_len; below = omega (arith, body_len, o.small) };
        trim_is = f.trim_is;
        extension_is = f.extension_is;
        kind_is = omega (arith, f.kind);
        allowed = rw (f.kind, f.redundant, f.trimmed) o.flags;
        short = omega (arith, length-take y.2 (x ∷ after), o.len, o.small);
      },
    )

pub header_read : HeaderIsRead
unfolding header_at
header_read x after payload h len small e = opened_is x after (h, payload, len) small (open_ok x after (leb_at after) (h, payload, len) refl e)

fields_again : (h : Head) (payload trim extension : List ℕ) → IsTrim h.trim trim → IsExtension h.extension extension → fields_at (first_byte h) (trim ++ (extension ++ payload)) ≡ Ok (h, payload)
unfolding fields_at
fields_again h payload trim extension t e =
    let p = first_parts h in
    rw (p.trimmed, trim_again h.trim trim (extension ++ payload) t, p.extended, extension_again h.extension extension payload e, p.kind, p.redundant) refl

again_at : (h : Head) (payload front size trim extension rest : List ℕ) → front ≡ first_byte h ∷ (size ++ (trim ++ (extension ++ payload))) → IsLeb (length (trim ++ (extension ++ payload))) size
    → IsTrim h.trim trim → IsExtension h.extension extension → flags_allowed (first_byte h) ≡ true → length front ≤ 2 ^ 21
    → after_size (first_byte h) (size ++ ((trim ++ (extension ++ payload)) ++ rest)) (Ok (length (trim ++ (extension ++ payload)), (trim ++ (extension ++ payload)) ++ rest)) ≡ Ok (h, payload, length front)
again_at h payload front size trim extension rest bytes size_is t e flags short =
    let body : List ℕ = trim ++ (extension ++ payload) in
    let len : 1 + (length (size ++ (body ++ rest)) - length (body ++ rest)) + length body ≡ length front = omega (arith, ap length bytes, length-append size body, length-append size (body ++ rest), length-append body rest) in
    rw (len, le-ltb (2 ^ 21) (length front) short, flags, bytes_again body rest, fields_again h payload trim extension t e) refl

pub header_again : HeaderIsReadAgain
unfolding header_at
header_again h payload front rest is =
    let p = first_parts h in
    let flags : flags_allowed (first_byte h) ≡ true = rw (p.kind, p.redundant, p.trimmed) is.allowed in
    let whole : front ++ rest ≡ first_byte h ∷ (is.size ++ ((is.trim ++ (is.extension ++ payload)) ++ rest)) =
    ap (λ (t : List ℕ). t ++ rest) is.bytes ∙ ap (λ (t : List ℕ). first_byte h ∷ t) (append_assoc is.size (is.trim ++ (is.extension ++ payload)) rest) in
    let read = leb_again is.size ((is.trim ++ (is.extension ++ payload)) ++ rest) (length (is.trim ++ (is.extension ++ payload))) is.size_is in
    ap header_at whole ∙ ap (after_size (first_byte h) (is.size ++ ((is.trim ++ (is.extension ++ payload)) ++ rest))) read
    ∙ again_at h payload front is.size is.trim is.extension rest is.bytes is.size_is is.trim_is is.extension_is flags is.short
