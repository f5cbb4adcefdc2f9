-- A list of OBUs, one at a time.
use Rattle.std.proofs.Common.{◌≡◌, ℕ, zero, suc, ◌+◌, ◌-◌, ◌^◌, ◌<◌, ◌≤◌, Bool, true, false, nat_lt, List, [], ◌∷◌, length, get_or, drop, Some, None, Result, Ok, Err, refl, ◌∙◌, arith, length-drop, drop-cons}
use Rattle.std.specs.Prelude.{if◌then◌else◌, IfOk}
use Rattle.std.proofs.lemmas.List.{drop-drop}
use Rattle.spec_bits.specs.declared.FieldFault.{FieldFault}
use Rattle.spec_bits.specs.ByteReading.{leb_at, bytes_at}
use Rattle.spec_obu.specs.declared.HeaderFault.{HeaderFault}
use Rattle.spec_obu.specs.declared.HeaderFault.TheVariants.{ObuSize, Flags}
use Rattle.spec_obu.specs.Header.{Head, flags_allowed}
use Rattle.spec_obu.specs.Reading.{Front, header_at, after_size, part, finish, fields_at}
use Rattle.spec_boxes.specs.ObuLists.{one_obu, and_then, obus, are_obus}

abbrev Takes : Front → Type 0
Takes f = 1 ≤ f.2

if_ok : (b : Bool) (x y : Result Front HeaderFault) → IfOk x Takes → IfOk y Takes → IfOk (if b then x else y) Takes
if_ok true x y h k = h
if_ok false x y h k = k

finished : (len : ℕ) (r : Result (Head × List ℕ) FieldFault) → 1 ≤ len → IfOk (finish len r) Takes
finished len (Ok r) some = some
finished len (Err f) some = tt

parted : (x len : ℕ) (r : Result (List ℕ × List ℕ) FieldFault) → 1 ≤ len → IfOk (part x len r) Takes
parted x len (Ok p) some = finished len (fields_at x p.0) some
parted x len (Err f) some = tt

sized : (x : ℕ) (after : List ℕ) (r : Result (ℕ × List ℕ) FieldFault) → IfOk (after_size x after r) Takes
sized x after (Err f) = tt
sized x after (Ok r) =
    let some : 1 ≤ 1 + (length after - length r.1) + r.0 = omega arith in
    let len = 1 + (length after - length r.1) + r.0 in
    if_ok (nat_lt (2 ^ 21) len) (Err ObuSize) (if flags_allowed x then part x len (bytes_at r.0 r.1) else Err Flags) tt
    (if_ok (flags_allowed x) (part x len (bytes_at r.0 r.1)) (Err Flags) (parted x len (bytes_at r.0 r.1) some) tt)

-- a header has a byte at least
takes : (x : ℕ) (xs : List ℕ) → IfOk (header_at (x ∷ xs)) Takes
unfolding header_at
takes x xs = sized x xs (leb_at xs)

chosen : (b : Bool) (len : ℕ) (f g : ℕ → Bool) → f len ≡ g len → and_then (if b then Some len else None) f ≡ and_then (if b then Some len else None) g
chosen true len f g same = same
chosen false len f g same = refl

same_after : (may : ℕ → Bool) (r : Result Front HeaderFault) (f g : ℕ → Bool) → IfOk r Takes → ((len : ℕ) → 1 ≤ len → f len ≡ g len) → and_then (one_obu may r) f ≡ and_then (one_obu may r) g
same_after may (Ok r) f g some same = chosen (may (r.0).kind) r.2 f g (same r.2 some)
same_after may (Err e) f g some same = refl

enough : (n m : ℕ) (may : ℕ → Bool) (bytes : List ℕ) → length bytes ≤ n → length bytes ≤ m → obus n may bytes ≡ obus m may bytes
enough zero zero may bytes p q = refl
enough zero (suc m) may [] p q = refl
enough zero (suc m) may (x ∷ xs) p q = absurd (omega arith)
enough (suc n) zero may [] p q = refl
enough (suc n) zero may (x ∷ xs) p q = absurd (omega arith)
enough (suc n) (suc m) may [] p q = refl
enough (suc n) (suc m) may (x ∷ xs) p q =
    same_after may (header_at (x ∷ xs)) _ _ (takes x xs) (λ len some.
    enough n m may (drop len (x ∷ xs)) (omega (arith, length-drop len (x ∷ xs))) (omega (arith, length-drop len (x ∷ xs))))

abbrev pub rest_are : (ℕ → Bool) → List ℕ → ℕ → Bool
rest_are may bytes at = obus (length bytes - at) may (drop at bytes)

pub rest_start : (may : ℕ → Bool) (bytes : List ℕ) → rest_are may bytes 0 ≡ are_obus may bytes
unfolding are_obus
rest_start may bytes = let z : length bytes - 0 ≡ length bytes = omega arith in rw z refl

pub rest_end : (may : ℕ → Bool) (bytes : List ℕ) (at : ℕ) → length bytes ≤ at → rest_are may bytes at ≡ true
rest_end may bytes at past = let z : length bytes - at ≡ 0 = omega arith in rw z refl

pub rest_step : (may : ℕ → Bool) (bytes : List ℕ) (at : ℕ) → at < length bytes
    → rest_are may bytes at ≡ and_then (one_obu may (header_at (drop at bytes))) (λ len. rest_are may bytes (at + len))
rest_step may bytes at less =
    let e = drop-cons bytes at 0 less in
    let k : length bytes - at ≡ suc (length bytes - at - 1) = omega arith in
    rw (k, e) (same_after may (header_at (get_or bytes at 0 ∷ drop (suc at) bytes)) _ _ (takes (get_or bytes at 0) (drop (suc at) bytes)) (λ len some.
    rw (← e, drop-drop) (enough (length bytes - at - 1) (length bytes - (at + len)) may (drop (at + len) bytes) (omega (arith, length-drop (at + len) bytes)) (omega (arith, length-drop (at + len) bytes)))))

pub rest_next : (may : ℕ → Bool) (bytes : List ℕ) (at end : ℕ) (h : Head) (payload : List ℕ) → at < end → at < length bytes → header_at (drop at bytes) ≡ Ok (h, payload, end - at) → may h.kind ≡ true
    → rest_are may bytes at ≡ rest_are may bytes end
rest_next may bytes at end h payload onward less read fine =
    let e : at + (end - at) ≡ end = omega arith in
    rest_step may bytes at less ∙ rw (read, fine, e) refl

pub rest_other : (may : ℕ → Bool) (bytes : List ℕ) (at end : ℕ) (h : Head) (payload : List ℕ) → at < length bytes → header_at (drop at bytes) ≡ Ok (h, payload, end - at) → may h.kind ≡ false
    → rest_are may bytes at ≡ false
rest_other may bytes at end h payload less read bad = rest_step may bytes at less ∙ rw (read, bad) refl

pub rest_fault : (may : ℕ → Bool) (bytes : List ℕ) (at : ℕ) (f : HeaderFault) → at < length bytes → header_at (drop at bytes) ≡ Err f → rest_are may bytes at ≡ false
rest_fault may bytes at f less read = rest_step may bytes at less ∙ rw read refl
