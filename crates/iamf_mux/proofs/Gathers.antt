-- What is gathered of the OBUs of a sequence is its body.
use Rattle.std.proofs.Common.{◌≡◌, ◌⊎◌, ℕ, ◌+◌, Bool, true, false, cond, List, [], ◌∷◌, ◌++◌, length, get_or, set, map, refl, sym, ap, ap₂, ◌∙◌, inl, inr, subst, append_assoc, append-nil, length-append, eq-eqb, ne_eqb, arith}
use Rattle.std.specs.Prelude.{Option, Some, None, sum, IfSome, if◌then◌else◌}
use Rattle.std.specs.List.{flat_map}
use Rattle.std.proofs.lemmas.List.{map-append, length-map, set_at, get_or_at}
use Rattle.spec_obu.specs.Kinds.{obu_type_of}
use Rattle.spec_rules.specs.Units.{is_data, unit_after}
use Rattle.spec_rules.proofs.Basics.{flat_map-push}
use Rattle.spec_boxes.proofs.Rows.{sum-cons}
use Rattle.spec_boxes.specs.ObuLists.{delimits}
use Rattle.spec_files.specs.Body.{is_descriptor}
use Rattle.spec_bodies.specs.Spelled.{Spelled, obu_of, role_of, roles_of}
use Rattle.spec_bodies.specs.SequenceBody.{units, descriptors}
use Rattle.spec_bodies.proofs.OneMore.{descriptors-push, size, GrowsLast}
use Rattle.spec_bodies.proofs.Growing.{Adds, Quiet, Marks, Begins, Grows}
use Rattle.iamf_mux.specs.Gathering.{Slices, IsGathered, with_unit, with_descriptor, with_obu}

abbrev flat : List (List ℕ) → List ℕ
flat us = flat_map (λ (u : List ℕ). u) us

-- the number of an OBU's unit
abbrev pub number : List Spelled → Spelled → Option ℕ
number os o = if is_data (role_of o) then Some (unit_after (roles_of os) (role_of o)) else None

numbered : (os : List Spelled) (o : Spelled) → is_data (role_of o) ≡ true → number os o ≡ Some (unit_after (roles_of os) (role_of o))
numbered os o some = rw some refl

unnumbered : (os : List Spelled) (o : Spelled) → is_data (role_of o) ≡ false → number os o ≡ None
unnumbered os o none = rw none refl

-- ---- lists

flat-push : (us : List (List ℕ)) (u : List ℕ) → flat (us ++ u ∷ []) ≡ flat us ++ u
flat-push us u = flat_map-push (λ (x : List ℕ). x) us u

lengths-push : (us : List (List ℕ)) (u : List ℕ) → map length (us ++ u ∷ []) ≡ map length us ++ length u ∷ []
lengths-push us u = map-append length us (u ∷ [])

-- the last number is more
last_more : (ns : List ℕ) (k i n : ℕ) → length ns ≡ i → set (ns ++ k ∷ []) i (get_or (ns ++ k ∷ []) i 0 + n) ≡ ns ++ (k + n) ∷ []
last_more ns k i n is = ap (λ (x : ℕ). set (ns ++ k ∷ []) i (x + n)) (get_or_at ns k [] 0 i is) ∙ set_at ns k [] (k + n) i is

-- ---- one OBU

abbrev begun_is : Slices → ℕ → Type 0
begun_is s u = with_unit u s ≡ record { descriptors = s.descriptors; units = s.units; unit_lengths = s.unit_lengths ++ 0 ∷ [] }

begins : (s : Slices) (u : ℕ) → u ≡ length s.unit_lengths → begun_is s u
begins s u is = rw (eq-eqb u (length s.unit_lengths) is) refl

stays : (s : Slices) (u : ℕ) → (u ≡ length s.unit_lengths → ⊥) → with_unit u s ≡ s
stays s u other = rw (ne_eqb u (length s.unit_lengths) other) refl

count_is : (s : Slices) (os : List Spelled) → IsGathered s os → length s.unit_lengths ≡ length (units os)
count_is s os g = ap length g.lengths_are ∙ length-map (units os) length

quietly : (s : Slices) (os : List Spelled) (o : Spelled) → units (os ++ o ∷ []) ≡ units os → IsGathered s os → IsGathered (with_obu o.value.head None o.bytes s) (os ++ o ∷ [])
quietly s os o same g = one (is_descriptor (obu_of o)) (descriptors-push os o) where
  one : (b : Bool) → descriptors (os ++ o ∷ []) ≡ descriptors os ++ cond b o.bytes [] → IsGathered (cond b (with_descriptor o.bytes s) s) (os ++ o ∷ [])
  one true more = record { descriptors_are = ap (λ (d : List ℕ). d ++ o.bytes) g.descriptors_are ∙ sym more; units_are = g.units_are ∙ ap flat (sym same); lengths_are = g.lengths_are ∙ ap (map length) (sym same) }
  one false more = record { descriptors_are = g.descriptors_are ∙ sym (append-nil (descriptors os)) ∙ sym more; units_are = g.units_are ∙ ap flat (sym same); lengths_are = g.lengths_are ∙ ap (map length) (sym same) }

marks : (s : Slices) (os : List Spelled) (o : Spelled) (u : ℕ) → descriptors (os ++ o ∷ []) ≡ descriptors os → delimits (obu_type_of o.value.head.kind) ≡ true → u ≡ length (units os) → units (os ++ o ∷ []) ≡ units os ++ [] ∷ []
    → IsGathered s os → IsGathered (with_obu o.value.head (Some u) o.bytes s) (os ++ o ∷ [])
marks s os o u described delimiter here more g = rw (delimiter, begins s u (here ∙ sym (count_is s os g))) (record {
  descriptors_are = g.descriptors_are ∙ sym described;
  units_are = g.units_are ∙ sym (append-nil (flat (units os))) ∙ sym (flat-push (units os) []) ∙ ap flat (sym more);
  lengths_are = ap (λ (ns : List ℕ). ns ++ 0 ∷ []) g.lengths_are ∙ sym (lengths-push (units os) []) ∙ ap (map length) (sym more);
})

begins_one : (s : Slices) (os : List Spelled) (o : Spelled) (u : ℕ) → descriptors (os ++ o ∷ []) ≡ descriptors os → delimits (obu_type_of o.value.head.kind) ≡ false → u ≡ length (units os) → units (os ++ o ∷ []) ≡ units os ++ o.bytes ∷ []
    → IsGathered s os → IsGathered (with_obu o.value.head (Some u) o.bytes s) (os ++ o ∷ [])
begins_one s os o u described other here more g = rw (other, begins s u (here ∙ sym (count_is s os g))) (record {
  descriptors_are = g.descriptors_are ∙ sym described;
  units_are = ap (λ (b : List ℕ). b ++ o.bytes) g.units_are ∙ sym (flat-push (units os) o.bytes) ∙ ap flat (sym more);
  lengths_are = last_more s.unit_lengths 0 u (length o.bytes) (count_is s os g ∙ sym here)
      ∙ ap₂ (λ (ns : List ℕ) (n : ℕ). ns ++ n ∷ []) g.lengths_are (plus_none (length o.bytes)) ∙ sym (lengths-push (units os) o.bytes) ∙ ap (map length) (sym more);
}) where
  plus_none : (n : ℕ) → 0 + n ≡ n
  plus_none n = omega arith

grows : (s : Slices) (os : List Spelled) (o : Spelled) (u : ℕ) → descriptors (os ++ o ∷ []) ≡ descriptors os → delimits (obu_type_of o.value.head.kind) ≡ false → (w : GrowsLast os o) → u ≡ length w.before
    → IsGathered s os → IsGathered (with_obu o.value.head (Some u) o.bytes s) (os ++ o ∷ [])
grows s os o u described other w here g = rw (other, stays s u (λ e. omega (arith, e, here, counted))) (record {
  descriptors_are = g.descriptors_are ∙ sym described;
  units_are = ap (λ (b : List ℕ). b ++ o.bytes) (g.units_are ∙ ap flat w.was ∙ flat-push w.before w.last) ∙ append_assoc (flat w.before) w.last o.bytes
      ∙ sym (flat-push w.before (w.last ++ o.bytes)) ∙ ap flat (sym w.is);
  lengths_are = ap (λ (ns : List ℕ). set ns u (get_or ns u 0 + length o.bytes)) lengths
      ∙ last_more (map length w.before) (length w.last) u (length o.bytes) (length-map w.before length ∙ sym here)
      ∙ ap (λ n. map length w.before ++ n ∷ []) (sym (length-append w.last o.bytes)) ∙ sym (lengths-push w.before (w.last ++ o.bytes)) ∙ ap (map length) (sym w.is);
}) where
  counted : length s.unit_lengths ≡ length w.before + 1
  counted = count_is s os g ∙ ap length w.was ∙ length-append w.before (w.last ∷ [])

  lengths : s.unit_lengths ≡ map length w.before ++ length w.last ∷ []
  lengths = g.lengths_are ∙ ap (map length) w.was ∙ lengths-push w.before w.last

-- any OBU
pub gathers : (s : Slices) (os : List Spelled) (o : Spelled) → Adds os o → IsGathered s os → IsGathered (with_obu o.value.head (number os o) o.bytes s) (os ++ o ∷ [])
gathers s os o (Quiet quiet same) g = subst (λ (n : Option ℕ). IsGathered (with_obu o.value.head n o.bytes s) (os ++ o ∷ [])) (sym (unnumbered os o quiet)) (quietly s os o same g)
gathers s os o (Marks some described delimiter here more) g =
    subst (λ (n : Option ℕ). IsGathered (with_obu o.value.head n o.bytes s) (os ++ o ∷ [])) (sym (numbered os o some)) (marks s os o (unit_after (roles_of os) (role_of o)) described delimiter here more g)
gathers s os o (Begins some described other here more) g =
    subst (λ (n : Option ℕ). IsGathered (with_obu o.value.head n o.bytes s) (os ++ o ∷ [])) (sym (numbered os o some)) (begins_one s os o (unit_after (roles_of os) (role_of o)) described other here more g)
gathers s os o (Grows some described other w here) g =
    subst (λ (n : Option ℕ). IsGathered (with_obu o.value.head n o.bytes s) (os ++ o ∷ [])) (sym (numbered os o some)) (grows s os o (unit_after (roles_of os) (role_of o)) described other w here g)

-- the unit is the last one, or the next
abbrev pub IsLastOrNext : List ℕ → ℕ → Type 0
IsLastOrNext lengths u = (u ≡ length lengths) ⊎ (u + 1 ≡ length lengths)

pub at_last : (s : Slices) (os : List Spelled) (o : Spelled) → Adds os o → IsGathered s os → IfSome (number os o) (IsLastOrNext s.unit_lengths)
at_last s os o (Quiet quiet same) g = subst (λ (n : Option ℕ). IfSome n (IsLastOrNext s.unit_lengths)) (sym (unnumbered os o quiet)) tt
at_last s os o (Marks some described delimiter here more) g = subst (λ (n : Option ℕ). IfSome n (IsLastOrNext s.unit_lengths)) (sym (numbered os o some)) (inl (here ∙ sym (count_is s os g)))
at_last s os o (Begins some described other here more) g = subst (λ (n : Option ℕ). IfSome n (IsLastOrNext s.unit_lengths)) (sym (numbered os o some)) (inl (here ∙ sym (count_is s os g)))
at_last s os o (Grows some described other w here) g =
    subst (λ (n : Option ℕ). IfSome n (IsLastOrNext s.unit_lengths)) (sym (numbered os o some)) (inr (ap (λ n. n + 1) here ∙ sym (count_is s os g ∙ ap length w.was ∙ length-append w.before (w.last ∷ []))))

-- ---- room

pub sum_is : (us : List (List ℕ)) → sum (map length us) ≡ length (flat us)
sum_is [] = refl
sum_is (u ∷ us) = sum-cons (length u) (map length us) ∙ ap (λ n. length u + n) (sum_is us) ∙ sym (length-append u (flat us))

pub total : (s : Slices) (os : List Spelled) → IsGathered s os → sum s.unit_lengths ≡ size (units os)
total s os g = ap sum g.lengths_are ∙ sum_is (units os)
