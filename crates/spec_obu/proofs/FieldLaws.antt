-- The trims and the extension are read exactly on their spellings, and fail exactly on their faults.
use Rattle.std.proofs.Common.{◌≡◌, ℕ, ◌<◌, inl, inr, Bool, true, false, List, [], ◌++◌, length, take, drop, Option, Some, None, is_some, Ok, Err, refl, sym, ap, subst, ◌∙◌, arith, append_assoc, length-append}
use Rattle.std.proofs.lemmas.List.{length-take, take-append-drop}
use Rattle.std.proofs.lemmas.Bool.{cases_lt, lt-ltb, le-ltb}
use Rattle.std.proofs.Math.Seq.{take-append_seam, drop-append_seam}
use Rattle.spec_bits.specs.declared.FieldFault.{FieldFault}
use Rattle.spec_bits.specs.declared.FieldFault.TheVariants as field
use Rattle.spec_bits.specs.ByteReading.{◌>>=◌, leb_at, bytes_at}
use Rattle.spec_bits.proofs.Outcomes.{ok_is, bind_ok, bind_err}
use Rattle.spec_bits.proofs.LebLaws.{leb_read, leb_again, leb_fails, leb_fails_only}
use Rattle.spec_obu.specs.declared.trim.Trim.{Trim}
use Rattle.spec_obu.specs.Header.{Head, IsTrim, IsExtension, kind_of, is_redundant, is_trimmed, is_extended}
use Rattle.spec_obu.specs.Faults.{NumberFails, AfterNumber, TrimsFail, ExtensionFails, AfterTrims, FieldsFail}
use Rattle.spec_obu.specs.Reading.{trim_at, extension_at, fields_at}

-- ---- the parts

-- a front, and a front of what is left, are one front
regrouped : (b front left next rest : List ℕ) → b ≡ front ++ left → left ≡ next ++ rest → b ≡ (front ++ next) ++ rest
regrouped b front left next rest e f = e ∙ ap (λ (t : List ℕ). front ++ t) f ∙ sym (append_assoc front next rest)

pub bytes_read : (n : ℕ) (b text rest : List ℕ) → bytes_at n b ≡ Ok (text, rest) → (length text ≡ n) × (b ≡ text ++ rest)
unfolding bytes_at
bytes_read n b text rest e =
    elim (cases_lt (length b) n) [
      | inl lt ↦ let h = rw (lt-ltb (length b) n lt) at e in absurd cc
      | inr le ↦
          let same = ok_is {F = FieldFault} (take n b, drop n b) (text, rest) (rw (le-ltb (length b) n le) at e) in
          subst (λ (p : List ℕ × List ℕ). (length p.0 ≡ n) × (b ≡ p.0 ++ p.1)) same (omega (arith, length-take n b), sym (take-append-drop n b))
    ]

pub bytes_again : (text rest : List ℕ) → bytes_at (length text) (text ++ rest) ≡ Ok (text, rest)
unfolding bytes_at
bytes_again text rest = rw (le-ltb (length (text ++ rest)) (length text) (omega (arith, length-append text rest)), take-append_seam text rest, drop-append_seam text rest) refl

pub record TrimRead (b : Bool) (bytes : List ℕ) (t : Option Trim) (rest : List ℕ) : Type 0 where
  pub text : List ℕ
  pub is : IsTrim t text
  pub there : is_some t ≡ b
  pub parts : bytes ≡ text ++ rest

pub trim_read : (b : Bool) (bytes : List ℕ) (y : Option Trim × List ℕ) → trim_at b bytes ≡ Ok y → TrimRead b bytes y.0 y.1
unfolding trim_at
trim_read false bytes y e = subst (λ (p : Option Trim × List ℕ). TrimRead false bytes p.0 p.1) (ok_is {F = FieldFault} (None, bytes) y e) (record { text = []; is = refl; there = refl; parts = refl })
trim_read true bytes y e =
    let a = bind_ok (leb_at bytes) (λ end. leb_at end.1 >>= λ start. Ok (Some (record { end = end.0; start = start.0 }), start.1)) y e in
    let b = bind_ok (leb_at a.0.1) (λ start. Ok (Some (record { end = a.0.0; start = start.0 }), start.1)) y a.2 in
    let p = leb_read bytes a.0.1 a.0.0 a.1 in
    let q = leb_read a.0.1 b.0.1 b.0.0 b.1 in
    subst (λ (p : Option Trim × List ℕ). TrimRead true bytes p.0 p.1) (ok_is {F = FieldFault} (Some (record { end = a.0.0; start = b.0.0 }), b.0.1) y b.2)
    (record { text = p.0 ++ q.0; is = (p.0, q.0, p.1, q.1, refl); there = refl; parts = regrouped bytes p.0 a.0.1 q.0 b.0.1 p.2 q.2 })

pub trim_again : (t : Option Trim) (text rest : List ℕ) → IsTrim t text → trim_at (is_some t) (text ++ rest) ≡ Ok (t, rest)
unfolding trim_at
trim_again None text rest is = rw is refl
trim_again (Some t) text rest is =
    let regrouped : text ++ rest ≡ is.0 ++ (is.1 ++ rest) = ap (λ (x : List ℕ). x ++ rest) is.4 ∙ append_assoc is.0 is.1 rest in
    rw (regrouped, leb_again is.0 (is.1 ++ rest) t.end is.2, leb_again is.1 rest t.start is.3) refl

pub record ExtensionRead (b : Bool) (bytes : List ℕ) (x : Option (List ℕ)) (rest : List ℕ) : Type 0 where
  pub text : List ℕ
  pub is : IsExtension x text
  pub there : is_some x ≡ b
  pub parts : bytes ≡ text ++ rest

pub extension_read : (b : Bool) (bytes : List ℕ) (y : Option (List ℕ) × List ℕ) → extension_at b bytes ≡ Ok y → ExtensionRead b bytes y.0 y.1
unfolding extension_at
extension_read false bytes y e = subst (λ (p : Option (List ℕ) × List ℕ). ExtensionRead false bytes p.0 p.1) (ok_is {F = FieldFault} (None, bytes) y e) (record { text = []; is = refl; there = refl; parts = refl })
extension_read true bytes y e =
    let a = bind_ok (leb_at bytes) (λ size. bytes_at size.0 size.1 >>= λ text. Ok (Some text.0, text.1)) y e in
    let b = bind_ok (bytes_at a.0.0 a.0.1) (λ text. Ok (Some text.0, text.1)) y a.2 in
    let p = leb_read bytes a.0.1 a.0.0 a.1 in
    let q = bytes_read a.0.0 a.0.1 b.0.0 b.0.1 b.1 in
    subst (λ (p : Option (List ℕ) × List ℕ). ExtensionRead true bytes p.0 p.1) (ok_is {F = FieldFault} (Some b.0.0, b.0.1) y b.2)
    (record { text = p.0 ++ b.0.0; is = (p.0, rw q.0 p.1, refl); there = refl; parts = regrouped bytes p.0 a.0.1 b.0.0 b.0.1 p.2 q.1 })

pub extension_again : (x : Option (List ℕ)) (text rest : List ℕ) → IsExtension x text → extension_at (is_some x) (text ++ rest) ≡ Ok (x, rest)
unfolding extension_at
extension_again None text rest is = rw is refl
extension_again (Some x) text rest is =
    let regrouped : text ++ rest ≡ is.0 ++ (x ++ rest) = ap (λ (t : List ℕ). t ++ rest) is.2 ∙ append_assoc is.0 x rest in
    rw (regrouped, leb_again is.0 (x ++ rest) (length x) is.1, bytes_again x rest) refl

pub record FieldsRead (x : ℕ) (bytes : List ℕ) (h : Head) (payload : List ℕ) : Type 0 where
  pub trim : List ℕ
  pub extension : List ℕ
  pub trim_is : IsTrim h.trim trim
  pub extension_is : IsExtension h.extension extension
  pub kind : h.kind ≡ kind_of x
  pub redundant : h.redundant ≡ is_redundant x
  pub trimmed : is_some h.trim ≡ is_trimmed x
  pub extended : is_some h.extension ≡ is_extended x
  pub parts : bytes ≡ trim ++ (extension ++ payload)

pub fields_read : (x : ℕ) (bytes : List ℕ) (y : Head × List ℕ) → fields_at x bytes ≡ Ok y → FieldsRead x bytes y.0 y.1
unfolding fields_at
fields_read x bytes y e =
    let a = bind_ok (trim_at (is_trimmed x) bytes) (λ trim. extension_at (is_extended x) trim.1 >>= λ extension. Ok (record { kind = kind_of x; redundant = is_redundant x; trim = trim.0; extension = extension.0 }, extension.1)) y e in
    let b = bind_ok (extension_at (is_extended x) a.0.1) (λ extension. Ok (record { kind = kind_of x; redundant = is_redundant x; trim = a.0.0; extension = extension.0 }, extension.1)) y a.2 in
    let p = trim_read (is_trimmed x) bytes a.0 a.1 in
    let q = extension_read (is_extended x) a.0.1 b.0 b.1 in
    let made : Head × List ℕ = (record { kind = kind_of x; redundant = is_redundant x; trim = a.0.0; extension = b.0.0 }, b.0.1) in
    subst (λ (r : Head × List ℕ). FieldsRead x bytes r.0 r.1) (ok_is {F = FieldFault} made y b.2) (record {
      trim = p.text;
      extension = q.text;
      trim_is = p.is;
      extension_is = q.is;
      kind = refl;
      redundant = refl;
      trimmed = p.there;
      extended = q.there;
      parts = p.parts ∙ ap (λ (t : List ℕ). p.text ++ t) q.parts;
    })

-- ---- the faults

-- a number and then what follows it
after_number : (P : ℕ → List ℕ → Type 0) (b rest : List ℕ) (v : ℕ) → leb_at b ≡ Ok (v, rest) → P v rest → AfterNumber P b
after_number P b rest v e has =
    let l = leb_read b rest v e in
    record { value = v; front = l.0; rest = rest; is = l.1; parts = l.2; has = has }

trim_fails : (trimmed : Bool) (b : List ℕ) (d : FieldFault) → trim_at trimmed b ≡ Err d → (trimmed ≡ true) × TrimsFail b
unfolding trim_at
trim_fails false b d e = absurd cc
trim_fails true b d e =
    elim (bind_err (leb_at b) (λ end. leb_at end.1 >>= λ start. Ok (Some (record { end = end.0; start = start.0 }), start.1)) d e) [
      | inl a ↦ (refl, inl (d, leb_fails b d a))
      | inr a ↦ elim (bind_err (leb_at a.0.1) (λ start. Ok (Some (record { end = a.0.0; start = start.0 }), start.1)) d a.2) [
        | inl c ↦ (refl, inr (after_number (λ _ rest. NumberFails rest) b a.0.1 a.0.0 a.1 (d, leb_fails a.0.1 d c)))
        | inr c ↦ absurd cc
      ]
    ]

pub trim_fails_only : (b : List ℕ) → TrimsFail b → (d : FieldFault) × (trim_at true b ≡ Err d)
unfolding trim_at
trim_fails_only b (inl n) = (n.0, rw (leb_fails_only b n.0 n.1) refl)
trim_fails_only b (inr a) = (a.has.0, rw (a.parts, leb_again a.front a.rest a.value a.is, leb_fails_only a.rest a.has.0 a.has.1) refl)

bytes_fail : (n : ℕ) (b : List ℕ) (d : FieldFault) → bytes_at n b ≡ Err d → length b < n
unfolding bytes_at
bytes_fail n b d e =
    elim (cases_lt (length b) n) [
      | inl lt ↦ lt
      | inr le ↦ let h = rw (le-ltb (length b) n le) at e in absurd cc
    ]

bytes_fail_only : (n : ℕ) (b : List ℕ) → length b < n → bytes_at n b ≡ Err field.Short
unfolding bytes_at
bytes_fail_only n b lt = rw (lt-ltb (length b) n lt) refl

extension_fails : (extended : Bool) (b : List ℕ) (d : FieldFault) → extension_at extended b ≡ Err d → (extended ≡ true) × ExtensionFails b
unfolding extension_at
extension_fails false b d e = absurd cc
extension_fails true b d e =
    elim (bind_err (leb_at b) (λ size. bytes_at size.0 size.1 >>= λ text. Ok (Some text.0, text.1)) d e) [
      | inl a ↦ (refl, inl (d, leb_fails b d a))
      | inr a ↦ elim (bind_err (bytes_at a.0.0 a.0.1) (λ text. Ok (Some text.0, text.1)) d a.2) [
        | inl c ↦ (refl, inr (after_number (λ size rest. length rest < size) b a.0.1 a.0.0 a.1 (bytes_fail a.0.0 a.0.1 d c)))
        | inr c ↦ absurd cc
      ]
    ]

extension_fails_only : (b : List ℕ) → ExtensionFails b → (d : FieldFault) × (extension_at true b ≡ Err d)
unfolding extension_at
extension_fails_only b (inl n) = (n.0, rw (leb_fails_only b n.0 n.1) refl)
extension_fails_only b (inr a) = (field.Short, rw (a.parts, leb_again a.front a.rest a.value a.is, bytes_fail_only a.value a.rest a.has) refl)

pub fields_fail : (x : ℕ) (b : List ℕ) (d : FieldFault) → fields_at x b ≡ Err d → FieldsFail x b
unfolding fields_at
fields_fail x b d e =
    elim (bind_err (trim_at (is_trimmed x) b) (λ trim. extension_at (is_extended x) trim.1 >>= λ extension. Ok (record { kind = kind_of x; redundant = is_redundant x; trim = trim.0; extension = extension.0 }, extension.1)) d e) [
      | inl a ↦ inl (trim_fails (is_trimmed x) b d a)
      | inr a ↦ elim (bind_err (extension_at (is_extended x) a.0.1) (λ extension. Ok (record { kind = kind_of x; redundant = is_redundant x; trim = a.0.0; extension = extension.0 }, extension.1)) d a.2) [
        | inl c ↦
            let p = trim_read (is_trimmed x) b a.0 a.1 in
            let f = extension_fails (is_extended x) a.0.1 d c in
            inr (f.0, record { trim = a.0.0; front = p.text; rest = a.0.1; there = p.there; is = p.is; parts = p.parts; has = f.1 })
        | inr c ↦ absurd cc
      ]
    ]

-- the trims are read
pub trims_at : (trimmed : Bool) (P : List ℕ → Type 0) (b : List ℕ) (a : AfterTrims trimmed P b) → trim_at trimmed b ≡ Ok (a.trim, a.rest)
trims_at trimmed P b a = rw (← a.there, a.parts) (trim_again a.trim a.front a.rest a.is)

pub fields_fail_only : (x : ℕ) (b : List ℕ) → FieldsFail x b → (d : FieldFault) × (fields_at x b ≡ Err d)
unfolding fields_at
fields_fail_only x b (inl s) = let t = trim_fails_only b s.1 in (t.0, rw (s.0, t.1) refl)
fields_fail_only x b (inr s) =
    let a : AfterTrims (is_trimmed x) ExtensionFails b = s.1 in
    let t = trims_at (is_trimmed x) ExtensionFails b a in
    let k = extension_fails_only a.rest a.has in
    (k.0, rw (t, s.0, k.1) refl)
