-- OBUs follow one another in one way.
use Rattle.std.proofs.Common.{◌≡◌, ℕ, zero, suc, ◌+◌, ◌<◌, ◌≤◌, ◌⊎◌, inl, inr, List, [], ◌∷◌, ◌++◌, length, refl, sym, ap, subst, ◌∙◌, arith, append_assoc, length-append}
use Rattle.spec_bits.specs.Bits.{AreBytes}
use Rattle.spec_bits.proofs.ByteForms.{AreBytes-parts}
use Rattle.spec_obu.specs.declared.HeaderFault.{HeaderFault}
use Rattle.spec_obu.specs.Header.{Head, Header}
use Rattle.spec_obu.specs.Faults.{IsFirstFault}
use Rattle.spec_obu.proofs.FaultLaws.{one_first}
use Rattle.spec_obu.proofs.OneHeader.{either, no_header, same_front}
use Rattle.spec_obu.specs.Listing.{Obu, AreObus, joined, line, lines, Lists, Refuses}
use Rattle.spec_obu.specs.Laws.{EitherListedOrRefused, ListedIsNotRefused, OneListing, OneRefusal}

-- a header takes a byte
begun_by : (h : Head) (p front rest : List ℕ) → Header h p front → front ++ rest ≡ [] → ⊥
begun_by h p front rest a e = omega (arith, ap length e, length-append front rest, ap length a.bytes)

excludes : (os os' : List Obu) (rest : List ℕ) (f : HeaderFault) → AreObus os → AreObus os' → IsFirstFault f rest → 0 < length rest → joined os ≡ joined os' ++ rest → ⊥
excludes [] [] rest f a b fault begun e = omega (arith, ap length e)
excludes (o ∷ os) [] rest f a b fault begun e = no_header o.head o.payload o.bytes (joined os) rest f a.0 fault begun e
excludes [] (o ∷ os') rest f a b fault begun e = begun_by o.head o.payload o.bytes (joined os' ++ rest) b.0 (sym (append_assoc o.bytes (joined os') rest) ∙ sym e)
excludes (o ∷ os) (o' ∷ os') rest f a b fault begun e =
    let same = same_front o.head o'.head o.payload o'.payload o.bytes o'.bytes (joined os) (joined os' ++ rest) a.0 b.0 (e ∙ append_assoc o'.bytes (joined os') rest) in
    excludes os os' rest f a.1 b.1 fault begun same.after

pub excluded : ListedIsNotRefused
excluded at b text place f l r = excludes l.obus r.obus r.rest f l.are r.are r.fault r.begun (sym l.whole ∙ r.whole)

one_text : (at : ℕ) (os os' : List Obu) → AreObus os → AreObus os' → joined os ≡ joined os' → lines at os ≡ lines at os'
one_text at [] [] a b e = refl
one_text at (o ∷ os) [] a b e = absurd (begun_by o.head o.payload o.bytes (joined os) a.0 e)
one_text at [] (o ∷ os') a b e = absurd (begun_by o.head o.payload o.bytes (joined os') b.0 (sym e))
one_text at (o ∷ os) (o' ∷ os') a b e =
    let same = same_front o.head o'.head o.payload o'.payload o.bytes o'.bytes (joined os) (joined os') a.0 b.0 e in
    let rest = one_text (at + length o.bytes) os os' a.1 b.1 same.after in
    ap (λ (t : List ℕ). line at o.head (length o.bytes) ++ t) rest
    ∙ ap (λ (h : Head). line at h (length o.bytes) ++ lines (at + length o.bytes) os') same.head
    ∙ ap (λ (t : List ℕ). line at o'.head (length t) ++ lines (at + length t) os') same.bytes

pub one_listing : OneListing
one_listing at b text other l m = l.text_is ∙ one_text at l.obus m.obus l.are m.are (sym l.whole ∙ m.whole) ∙ sym m.text_is

one_place : (os os' : List Obu) (rest rest' : List ℕ) (f g : HeaderFault) → AreObus os → AreObus os' → IsFirstFault f rest → IsFirstFault g rest' → 0 < length rest → 0 < length rest'
    → joined os ++ rest ≡ joined os' ++ rest' → (length (joined os) ≡ length (joined os')) × (rest ≡ rest')
one_place [] [] rest rest' f g a b p q begun begun' e = (refl, e)
one_place (o ∷ os) [] rest rest' f g a b p q begun begun' e = absurd (no_header o.head o.payload o.bytes (joined os ++ rest) rest' g a.0 q begun' (sym (append_assoc o.bytes (joined os) rest) ∙ e))
one_place [] (o ∷ os') rest rest' f g a b p q begun begun' e = absurd (no_header o.head o.payload o.bytes (joined os' ++ rest') rest f b.0 p begun (sym (append_assoc o.bytes (joined os') rest') ∙ sym e))
one_place (o ∷ os) (o' ∷ os') rest rest' f g a b p q begun begun' e =
    let same = same_front o.head o'.head o.payload o'.payload o.bytes o'.bytes (joined os ++ rest) (joined os' ++ rest') a.0 b.0 (sym (append_assoc o.bytes (joined os) rest) ∙ e ∙ append_assoc o'.bytes (joined os') rest') in
    let r = one_place os os' rest rest' f g a.1 b.1 p q begun begun' same.after in
    (omega (arith, r.0, ap length same.bytes, length-append o.bytes (joined os), length-append o'.bytes (joined os')), r.1)

pub one_refusal : OneRefusal
one_refusal at b place other f g r s =
    let o = one_place r.obus s.obus r.rest s.rest f g r.are s.are r.fault s.fault r.begun s.begun (sym r.whole ∙ s.whole) in
    (omega (arith, o.0, r.place_is, s.place_is), one_first s.rest f g (subst (λ (rest : List ℕ). IsFirstFault f rest) o.1 r.fault) s.fault)

-- ---- there is a listing or a refusal

abbrev Outcome : ℕ → List ℕ → Type 0
Outcome at b = ((text : List ℕ) × Lists at b text) ⊎ ((place : ℕ) × (f : HeaderFault) × Refuses at b place f)

-- an OBU before what is listed or refused
with_obu : (at : ℕ) (o : Obu) (rest : List ℕ) → Header o.head o.payload o.bytes → Outcome (at + length o.bytes) rest → Outcome at (o.bytes ++ rest)
with_obu at o rest is (inl l) =
    let m : Lists (at + length o.bytes) rest l.0 = l.1 in
    inl (line at o.head (length o.bytes) ++ l.0, record { obus = o ∷ m.obus; are = (is, m.are); whole = ap (λ (t : List ℕ). o.bytes ++ t) m.whole; text_is = ap (λ (t : List ℕ). line at o.head (length o.bytes) ++ t) m.text_is })
with_obu at o rest is (inr r) =
    let q : Refuses (at + length o.bytes) rest r.0 r.1 = r.2 in
    inr (
      r.0,
      r.1,
      record {
        obus = o ∷ q.obus;
        rest = q.rest;
        are = (is, q.are);
        whole = ap (λ (t : List ℕ). o.bytes ++ t) q.whole ∙ sym (append_assoc o.bytes (joined q.obus) q.rest);
        place_is = omega (arith, q.place_is, length-append o.bytes (joined q.obus));
        begun = q.begun;
        fault = q.fault;
      },
    )

outcome_of : (n at : ℕ) (b : List ℕ) → AreBytes b → length b ≤ n → Outcome at b
outcome_of n at [] are few = inl ([], record { obus = []; are = tt; whole = refl; text_is = refl })
outcome_of zero at (x ∷ xs) are few = absurd (omega arith)
outcome_of (suc n) at (x ∷ xs) are few = elim (either (x ∷ xs) are (omega arith)) [
  | inl h ↦
      let rest_are : AreBytes h.rest = (AreBytes-parts h.front h.rest (subst AreBytes h.parts are)).1 in
      let rest_few : length h.rest ≤ n = omega (arith, ap length h.parts, length-append h.front h.rest, ap length h.is.bytes, few) in
      subst (Outcome at) (sym h.parts) (with_obu at (record { head = h.head; payload = h.payload; bytes = h.front }) h.rest h.is (outcome_of n (at + length h.front) h.rest rest_are rest_few))
  | inr f ↦ inr (at, f.0, record { obus = []; rest = x ∷ xs; are = tt; whole = refl; place_is = omega arith; begun = omega arith; fault = f.1 })
]

pub listed_or_refused : EitherListedOrRefused
listed_or_refused at b are = outcome_of (length b) at b are (omega arith)
