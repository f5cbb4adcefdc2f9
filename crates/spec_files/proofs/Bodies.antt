-- What is built of a body has that body, and no other.
use Rattle.std.proofs.Common.{◌≡◌, ℕ, suc, ◌≤◌, Bool, false, List, [], ◌∷◌, ◌++◌, length, take, drop, Result, Ok, Err, refl, sym, ap, ◌∙◌, arith, length-append}
use Rattle.std.specs.Prelude.{All}
use Rattle.std.specs.List.{flat_map}
use Rattle.std.proofs.Math.Seq.{drop-append_seam, take-append_seam}
use Rattle.spec_obu.specs.declared.HeaderFault.{HeaderFault}
use Rattle.spec_obu.specs.Header.{Head, Header}
use Rattle.spec_obu.specs.Reading.{Front, header_at}
use Rattle.spec_obu.specs.Listing.{Obu, joined}
use Rattle.spec_obu.proofs.HeaderLaws.{header_again}
use Rattle.spec_boxes.specs.ObuLists.{AllPass, WholeObus}
use Rattle.spec_files.specs.Body.{is_descriptor, is_data, is_any, descriptor_bytes, data_bytes, data_units, marked, rebuilt}
use Rattle.spec_files.specs.Laws.{RebuiltHasBody, OneBody}
use Rattle.spec_files.proofs.Delimiter.{delimiter, delimiter_is, mark, mark_is, bytes-append}
use Rattle.spec_files.proofs.BodyKinds.{descriptor_not_delimiter, data_not_delimiter, data_not_descriptor}

mark_not_descriptor : is_descriptor mark ≡ false
unfolding delimiter
mark_not_descriptor = refl

-- Descriptors, and then what has none.
descriptors_first : (xs ys : List Obu) → AllPass is_descriptor xs → descriptor_bytes ys ≡ [] → descriptor_bytes (xs ++ ys) ≡ joined xs
descriptors_first [] ys a none = none
descriptors_first (x ∷ xs) ys a none = rw a.1 (ap (λ (b : List ℕ). x.bytes ++ b) (descriptors_first xs ys a.2 none))

units_after : (xs ys : List Obu) → AllPass is_descriptor xs → data_units (xs ++ ys) ≡ data_units ys
units_after [] ys a = refl
units_after (x ∷ xs) ys a = rw (descriptor_not_delimiter x a.1) (units_after xs ys a.2)

no_descriptors : (xs ys : List Obu) → AllPass is_data xs → descriptor_bytes ys ≡ [] → descriptor_bytes (xs ++ ys) ≡ []
no_descriptors [] ys a none = none
no_descriptors (x ∷ xs) ys a none = rw (data_not_descriptor x a.1) (no_descriptors xs ys a.2 none)

unit_of : (xs ys : List Obu) → AllPass is_data xs → data_bytes ys ≡ [] → data_bytes (xs ++ ys) ≡ joined xs
unit_of [] ys a none = none
unit_of (x ∷ xs) ys a none = rw (data_not_delimiter x a.1, a.1) (ap (λ (b : List ℕ). x.bytes ++ b) (unit_of xs ys a.2 none))

units_of : (xs ys : List Obu) → AllPass is_data xs → data_units (xs ++ ys) ≡ data_units ys
units_of [] ys a = refl
units_of (x ∷ xs) ys a = rw (data_not_delimiter x a.1) (units_of xs ys a.2)

any_append : (test : Obu → Bool) (xs ys : List Obu) → AllPass test xs → AllPass is_any ys → AllPass is_any (xs ++ ys)
any_append test [] ys a b = b
any_append test (x ∷ xs) ys a b = (a.0, refl, any_append test xs ys a.2 b)

record Marked (units : List (List ℕ)) : Type 0 where
  obus : List Obu
  all : AllPass is_any obus
  bytes_are : flat_map marked units ≡ joined obus
  none : data_bytes obus ≡ []
  plain : descriptor_bytes obus ≡ []
  units_are : data_units obus ≡ units

mark_all : (units : List (List ℕ)) → All (λ u. WholeObus is_data u) units → Marked units
mark_all [] all = record { obus = []; all = tt; bytes_are = refl; none = refl; plain = refl; units_are = refl }
mark_all (u ∷ us) all =
    let a : WholeObus is_data u = all 0 [] (omega arith) in
    let m = mark_all us (λ k d less. all (suc k) d (omega arith)) in
    record {
      obus = mark ∷ (a.obus ++ m.obus);
      all = (delimiter_is, refl, any_append is_data a.obus m.obus a.all m.all);
      bytes_are = ap (λ (b : List ℕ). 0x20 ∷ 0 ∷ b) (ap (λ (b : List ℕ). u ++ b) m.bytes_are ∙ ap (λ (b : List ℕ). b ++ joined m.obus) a.bytes_are ∙ sym (bytes-append a.obus m.obus));
      none = rw mark_is refl;
      plain = rw mark_not_descriptor (no_descriptors a.obus m.obus a.all m.plain);
      units_are = rw mark_is (ap (λ (b : List ℕ). b ∷ data_units (a.obus ++ m.obus)) (unit_of a.obus m.obus a.all m.none ∙ sym a.bytes_are) ∙ ap (λ (vs : List (List ℕ)). u ∷ vs) (units_of a.obus m.obus a.all ∙ m.units_are));
    }

pub rebuilt_has_body : RebuiltHasBody
unfolding rebuilt
rebuilt_has_body descriptors units body =
    let c = body.describes in
    let m = mark_all units body.carry in
    record {
      obus = record {
        obus = c.obus ++ m.obus;
        all = any_append is_descriptor c.obus m.obus c.all m.all;
        bytes_are = ap (λ (b : List ℕ). descriptors ++ b) m.bytes_are ∙ ap (λ (b : List ℕ). b ++ joined m.obus) c.bytes_are ∙ sym (bytes-append c.obus m.obus);
      };
      descriptors_are = descriptors_first c.obus m.obus c.all m.plain ∙ sym c.bytes_are;
      units_are = units_after c.obus m.obus c.all ∙ m.units_are;
    }

-- Bytes are one list of OBUs.
head_in : Result Front HeaderFault → Head
head_in (Ok r) = r.0
head_in (Err e) = delimiter

payload_in : Result Front HeaderFault → List ℕ
payload_in (Ok r) = r.1
payload_in (Err e) = []

length_in : Result Front HeaderFault → ℕ
length_in (Ok r) = r.2
length_in (Err e) = 0

made : (h : Head) (x b : List ℕ) (p : Obu) → p.head ≡ h → p.payload ≡ x → p.bytes ≡ b → record { head = h; payload = x; bytes = b } ≡ p
made h x b p e f g = rw (← e, ← f, ← g) refl

some_bytes : (o : Obu) → Header o.head o.payload o.bytes → 1 ≤ length o.bytes
some_bytes o h = omega (arith, ap length h.bytes)

record Same (o p : Obu) (r s : List ℕ) : Type 0 where
  obu : o ≡ p
  rest : r ≡ s

same_first : (o p : Obu) (r s : List ℕ) → Header o.head o.payload o.bytes → Header p.head p.payload p.bytes → o.bytes ++ r ≡ p.bytes ++ s → Same o p r s
unfolding head_in payload_in length_in
same_first o p r s h k e =
    let a = header_again o.head o.payload o.bytes r h in
    let b = header_again p.head p.payload p.bytes s k in
    let same = sym a ∙ ap header_at e ∙ b in
    let n : length o.bytes ≡ length p.bytes = ap length_in same in
    let front : o.bytes ≡ p.bytes = sym (take-append_seam o.bytes r) ∙ ap (take (length o.bytes)) e ∙ ap (λ (i : ℕ). take i (p.bytes ++ s)) n ∙ take-append_seam p.bytes s in
    record {
      obu = made o.head o.payload o.bytes p (sym (ap head_in same)) (sym (ap payload_in same)) (sym front);
      rest = sym (drop-append_seam o.bytes r) ∙ ap (drop (length o.bytes)) e ∙ ap (λ (i : ℕ). drop i (p.bytes ++ s)) n ∙ drop-append_seam p.bytes s;
    }

pub same_obus : (os ps : List Obu) → AllPass is_any os → AllPass is_any ps → joined os ≡ joined ps → os ≡ ps
same_obus [] [] a b e = refl
same_obus [] (p ∷ ps) a b e = absurd (omega (arith, ap length e, length-append p.bytes (joined ps), some_bytes p b.0))
same_obus (o ∷ os) [] a b e = absurd (omega (arith, ap length e, length-append o.bytes (joined os), some_bytes o a.0))
same_obus (o ∷ os) (p ∷ ps) a b e =
    let s = same_first o p (joined os) (joined ps) a.0 b.0 e in
    ap (λ (x : Obu). x ∷ os) s.obu ∙ ap (λ (xs : List Obu). p ∷ xs) (same_obus os ps a.2 b.2 s.rest)

pub one_body : OneBody
one_body bytes c d u v h k =
    let s = same_obus h.obus.obus k.obus.obus h.obus.all k.obus.all (sym h.obus.bytes_are ∙ k.obus.bytes_are) in
    (sym h.descriptors_are ∙ ap descriptor_bytes s ∙ k.descriptors_are, sym h.units_are ∙ ap data_units s ∙ k.units_are)
