-- What passes as a list of OBUs is whole OBUs, and whole OBUs pass.
use Rattle.std.proofs.Common.{◌≡◌, ℕ, zero, suc, ◌+◌, ◌<◌, ◌≤◌, Bool, true, false, List, [], ◌∷◌, ◌++◌, length, get_or, take, drop, Some, None, Result, Ok, Err, refl, sym, ap, subst, ◌∙◌, arith, length-drop}
use Rattle.std.specs.Prelude.{if◌then◌else◌}
use Rattle.std.proofs.lemmas.List.{take-append-drop, get_or-drop}
use Rattle.std.proofs.Math.Seq.{drop-append_seam}
use Rattle.spec_bits.specs.Bits.{AreBytes}
use Rattle.spec_obu.specs.declared.HeaderFault.{HeaderFault}
use Rattle.spec_obu.specs.Header.{Head, Header}
use Rattle.spec_obu.specs.Reading.{Front, header_at}
use Rattle.spec_obu.proofs.HeaderLaws.{header_again, header_read}
use Rattle.spec_obu.specs.Listing.{Obu, joined}
use Rattle.spec_boxes.specs.ObuLists.{one_obu, and_then, obus, are_obus, AllPass, WholeObus, of_kind, ObusAreWhole, WholeAreObus}
use Rattle.spec_boxes.proofs.ObuLists.{rest_are, rest_start, rest_step}

rest_is : (may : ℕ → Bool) (bytes : List ℕ) (len : ℕ) → rest_are may bytes len ≡ are_obus may (drop len bytes)
unfolding are_obus
rest_is may bytes len = ap (λ (n : ℕ). obus n may (drop len bytes)) (sym (length-drop len bytes))

none_are : (may : ℕ → Bool) → are_obus may [] ≡ true
unfolding are_obus
none_are may = refl

chosen : (t : Bool) (len : ℕ) (f g : ℕ → Bool) → ((n : ℕ) → f n ≡ g n) → and_then (if t then Some len else None) f ≡ and_then (if t then Some len else None) g
chosen true len f g same = same len
chosen false len f g same = refl

same_after : (may : ℕ → Bool) (r : Result Front HeaderFault) (f g : ℕ → Bool) → ((n : ℕ) → f n ≡ g n) → and_then (one_obu may r) f ≡ and_then (one_obu may r) g
same_after may (Ok r) f g same = chosen (may (r.0).kind) r.2 f g same
same_after may (Err e) f g same = refl

-- one OBU, and the rest
step : (may : ℕ → Bool) (x : ℕ) (xs : List ℕ) → are_obus may (x ∷ xs) ≡ and_then (one_obu may (header_at (x ∷ xs))) (λ len. are_obus may (drop len (x ∷ xs)))
step may x xs =
    sym (rest_start may (x ∷ xs)) ∙ rest_step may (x ∷ xs) 0 (omega arith)
    ∙ same_after may (header_at (x ∷ xs)) (λ len. rest_are may (x ∷ xs) (0 + len)) (λ len. are_obus may (drop len (x ∷ xs))) (λ len. let z : 0 + len ≡ len = omega arith in rw z (rest_is may (x ∷ xs) len))

by_header : (may : ℕ → Bool) (h : Head) (payload front rest : List ℕ) (x : ℕ) (xs : List ℕ) → front ++ rest ≡ x ∷ xs → Header h payload front → may h.kind ≡ true → are_obus may (front ++ rest) ≡ are_obus may rest
by_header may h payload front rest x xs is header fine =
    let r : header_at (x ∷ xs) ≡ Ok (h, payload, length front) = sym (ap header_at is) ∙ header_again h payload front rest header in
    ap (are_obus may) is ∙ step may x xs ∙ rw (r, fine, ← is) (ap (are_obus may) (drop-append_seam front rest))

pub obu_then : (may : ℕ → Bool) (h : Head) (payload front rest : List ℕ) → Header h payload front → may h.kind ≡ true → are_obus may (front ++ rest) ≡ are_obus may rest
obu_then may h payload front rest header fine = by_header may h payload front rest _ _ (ap (λ (b : List ℕ). b ++ rest) header.bytes) header fine

all_are : (may : ℕ → Bool) (os : List Obu) → AllPass (of_kind may) os → are_obus may (joined os) ≡ true
all_are may [] all = none_are may
all_are may (o ∷ os) all = obu_then may o.head o.payload o.bytes (joined os) all.0 all.1 ∙ all_are may os all.2

pub whole_are : WholeAreObus
whole_are may bytes a = ap (are_obus may) a.bytes_are ∙ all_are may a.obus a.all

-- from bytes to OBUs
abbrev Wholes : ℕ → Type 0
Wholes n = (may : ℕ → Bool) (bytes : List ℕ) → length bytes ≤ n → ((i : ℕ) → get_or bytes i 0 < 256) → are_obus may bytes ≡ true → WholeObus (of_kind may) bytes

no_obus : (may : ℕ → Bool) → WholeObus (of_kind may) []
no_obus may = record { obus = []; all = tt; bytes_are = refl }

-- a header takes a byte at least
takes : (h : Head) (payload : List ℕ) (len : ℕ) (xs : List ℕ) → Header h payload (take len xs) → 1 ≤ len
takes h payload zero xs header = absurd (not_empty header.bytes) where
  not_empty : {y : ℕ} {ys : List ℕ} → [] ≡ y ∷ ys → ⊥
  not_empty e = cc
takes h payload (suc len) xs header = omega arith

if_may : (t : Bool) (len : ℕ) (f : ℕ → Bool) → and_then (if t then Some len else None) f ≡ true → (t ≡ true) × (f len ≡ true)
if_may true len f h = (refl, h)
if_may false len f h = cc

whole_by : (n : ℕ) → Wholes n → (may : ℕ → Bool) (x : ℕ) (xs : List ℕ) (r : Result Front HeaderFault) → length (x ∷ xs) ≤ suc n → ((i : ℕ) → get_or (x ∷ xs) i 0 < 256)
    → header_at (x ∷ xs) ≡ r → and_then (one_obu may r) (λ len. are_obus may (drop len (x ∷ xs))) ≡ true → WholeObus (of_kind may) (x ∷ xs)
whole_by n later may x xs (Err e) few small is h = absurd (no h) where
  no : false ≡ true → ⊥
  no q = cc
whole_by n later may x xs (Ok r) few small is h =
    let c = if_may (may (r.0).kind) r.2 (λ len. are_obus may (drop len (x ∷ xs))) h in
    let d = header_read x xs r.1 r.0 r.2 (small 0) is in
    let one : 1 ≤ r.2 = takes r.0 r.1 r.2 (x ∷ xs) d.1 in
    let rest = later may (drop r.2 (x ∷ xs)) (omega (arith, length-drop r.2 (x ∷ xs))) (λ i. subst (λ (y : ℕ). y < 256) (sym (get_or-drop r.2 (x ∷ xs) i 0)) (small (r.2 + i))) c.1 in
    record {
      obus = record { head = r.0; payload = r.1; bytes = take r.2 (x ∷ xs) } ∷ rest.obus;
      all = (d.1, c.0, rest.all);
      bytes_are = sym (take-append-drop r.2 (x ∷ xs)) ∙ ap (λ (b : List ℕ). take r.2 (x ∷ xs) ++ b) rest.bytes_are;
    }

wholes : (n : ℕ) → Wholes n
wholes n may [] few small h = no_obus may
wholes zero may (x ∷ xs) few small h = absurd (omega arith)
wholes (suc n) may (x ∷ xs) few small h = whole_by n (wholes n) may x xs (header_at (x ∷ xs)) few small refl (sym (step may x xs) ∙ h)

byte_below : (xs : List ℕ) → AreBytes xs → (i : ℕ) → get_or xs i 0 < 256
byte_below [] are i = omega arith
byte_below (x ∷ xs) are zero = are.0
byte_below (x ∷ xs) are (suc i) = byte_below xs are.1 i

pub obus_whole : ObusAreWhole
obus_whole may bytes are h = wholes (length bytes) may bytes (omega arith) (byte_below bytes are) h
