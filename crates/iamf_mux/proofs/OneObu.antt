-- One more OBU of the bytes is gathered.
use Rattle.std.proofs.Common.{◌≡◌, ℕ, ◌+◌, ◌-◌, ◌≤◌, ◌^◌, List, [], ◌∷◌, ◌++◌, length, take, drop, map, refl, sym, ap, ap₂, subst, ◌∙◌, arith}
use Rattle.std.specs.Prelude.{Option, IfSome, sum, slice_range}
use Rattle.std.specs.List.{flat_map}
use Rattle.std.proofs.lemmas.List.{map-append, length-take}
use Rattle.std.proofs.Math.Seq.{take-add}
use Rattle.spec_obu.specs.Header.{Head, Header}
use Rattle.spec_values.specs.Value.{Spells}
use Rattle.spec_rules.specs.Role.{Role}
use Rattle.spec_rules.proofs.Placing.{unit_count-none}
use Rattle.spec_sequence.specs.ValueRole.{role}
use Rattle.spec_sequence.specs.Reading.{Entry, roles, context_after, IsAdmissible}
use Rattle.spec_bodies.specs.Spelled.{Spelled, entry_of, role_of, entries_of, AdmittedAfter}
use Rattle.spec_bodies.proofs.SpelledRoles.{roles_are, no_fault}
use Rattle.spec_bodies.proofs.OneMore.{bytes-push, descriptors-none, units-none}
use Rattle.spec_bodies.proofs.Rebuilding.{rebuilds, admitted_more}
use Rattle.spec_bodies.proofs.Growing.{Adds, adds}
use Rattle.obu_header.specs.declared.view.ObuView.{ObuView}
use Rattle.obu_header.specs.View.{head_of}
use Rattle.iamf_admission.specs.declared.admitted.Admitted.{Admitted as AdmittedObu}
use Rattle.iamf_admission.specs.Numbers.{number_after}
use Rattle.iamf_sequence.specs.Walking.{piece_of, IsAtPlace}
use Rattle.iamf_mux.specs.declared.gathered.Gathered.{Gathered}
use Rattle.iamf_mux.specs.DraftView.{IsGatheredUpTo}
use Rattle.iamf_mux.specs.Gathering.{Slices, slices_of, no_slices, with_obu, IsGathered, AreSliced}
use Rattle.iamf_mux.proofs.Gathers.{IsLastOrNext, number, gathers, at_last, total}

-- ---- none

gathered_none : IsGathered no_slices []
gathered_none = record {
  descriptors_are = sym descriptors-none;
  units_are = sym (ap (flat_map (λ (u : List ℕ). u)) (units-none [] (unit_count-none [] refl)));
  lengths_are = sym (ap (map length) (units-none [] (unit_count-none [] refl)));
}

pub begun_of : (g : Gathered) (bytes : List ℕ) → g.bytes.now ≡ bytes → slices_of g ≡ no_slices → AreSliced g 0 → IsGatheredUpTo g bytes 0 []
begun_of g bytes same none sliced =
    record { same = same; obus = []; entries_are = refl; bytes_are = refl; admitted = tt; gathered = subst (λ (x : Slices). IsGathered x []) (sym none) gathered_none; sliced = sliced }

-- ---- one more

-- the OBU with its bytes
abbrev next_of : List ℕ → ℕ → ObuView → Entry → Spelled
next_of bytes at view e = record { value = e.value; payload = e.payload; bytes = piece_of bytes at view }

-- it is admitted after those before it, and it is this that its view and its number say
record Follows (os : List Spelled) (o : Spelled) (view : ObuView) (unit : Option ℕ) : Type 0 where
  spelled : Spells (context_after (entries_of os)) o.value o.payload o.bytes
  admissible : IsAdmissible (entries_of os) (entry_of o)
  adds : Adds os o
  head : head_of view.head ≡ o.value.head
  number_is : unit ≡ number os o

follows : (bytes : List ℕ) (at : ℕ) (view : ObuView) (obu : AdmittedObu) (l : List Entry) (e : Entry) (os : List Spelled) → entries_of os ≡ l → AdmittedAfter [] os → IsAtPlace bytes at view obu l e → Follows os (next_of bytes at view e) view obu.unit
follows bytes at view obu l e os are admitted n =
    let o = next_of bytes at view e in
    let next = n.taken.next in
    let header : Header e.value.head e.payload o.bytes = subst (λ (h : Head). Header h e.payload o.bytes) (sym next.head) (subst (λ (b : List ℕ). Header (head_of view.head) b o.bytes) (sym next.payload) n.header) in
    let spelled : Spells (context_after (entries_of os)) o.value o.payload o.bytes =
    subst (λ (p : List Entry). Spells (context_after p) o.value o.payload o.bytes) (sym are) (record { header = header; payload_is = next.payload_is }) in
    let admissible : IsAdmissible (entries_of os) (entry_of o) = subst (λ (p : List Entry). IsAdmissible p e) (sym are) next.admissible in
    let r = rebuilds os admitted in
    record {
      spelled = spelled;
      admissible = admissible;
      adds = adds os r.0 o (role_of o) refl spelled (no_fault os (context_after (entries_of os)) o spelled admissible) r.1;
      head = sym next.head;
      number_is = n.taken.unit ∙ ap (λ (m : List Role). number_after m (role e.value)) (ap roles (sym are) ∙ roles_are os);
    }

pub last_at : (g : Gathered) (bytes : List ℕ) (at : ℕ) (view : ObuView) (obu : AdmittedObu) (l : List Entry) (e : Entry) → IsGatheredUpTo g bytes at l → IsAtPlace bytes at view obu l e → IfSome obu.unit (IsLastOrNext (slices_of g).unit_lengths)
last_at g bytes at view obu l e h n =
    let f = follows bytes at view obu l e h.obus h.entries_are h.admitted n in
    subst (λ (m : Option ℕ). IfSome m (IsLastOrNext (slices_of g).unit_lengths)) (sym f.number_is) (at_last (slices_of g) h.obus (next_of bytes at view e) f.adds h.gathered)

pub room_at : (g : Gathered) (bytes : List ℕ) (at : ℕ) (view : ObuView) (obu : AdmittedObu) (l : List Entry) (e : Entry) → IsGatheredUpTo g bytes at l → IsAtPlace bytes at view obu l e → length bytes ≤ 2 ^ 30
    → sum (slices_of g).unit_lengths + length (slice_range g.bytes.now view.at view.end) ≤ 2 ^ 30
room_at g bytes at view obu l e h n short =
    let r = (rebuilds h.obus h.admitted).1 in
    omega (arith, total (slices_of g) h.obus h.gathered, r.small, ap length h.bytes_are, length-take at bytes, length-take (view.end - view.at) (drop view.at g.bytes.now), n.place, n.onward, n.within, short)

pub gathered_more : (old new : Gathered) (bytes : List ℕ) (at : ℕ) (view : ObuView) (obu : AdmittedObu) (l : List Entry) (e : Entry) → IsGatheredUpTo old bytes at l → IsAtPlace bytes at view obu l e
    → new.bytes.now ≡ old.bytes.now → slices_of new ≡ with_obu (head_of view.head) obu.unit (slice_range old.bytes.now view.at view.end) (slices_of old) → AreSliced new view.end → IsGatheredUpTo new bytes view.end (l ++ e ∷ [])
gathered_more old new bytes at view obu l e h n same added sliced =
    let os = h.obus in
    let o = next_of bytes at view e in
    let f = follows bytes at view obu l e os h.entries_are h.admitted n in
    let piece : slice_range old.bytes.now view.at view.end ≡ o.bytes = ap₂ (λ (b : List ℕ) (i : ℕ). slice_range b i view.end) h.same n.place in
    let grown : take view.end bytes ≡ take at bytes ++ o.bytes = ap (λ (i : ℕ). take i bytes) (omega (arith, n.onward)) ∙ take-add at (view.end - at) bytes in
    let next : with_obu (head_of view.head) obu.unit (slice_range old.bytes.now view.at view.end) (slices_of old) ≡ with_obu o.value.head (number os o) o.bytes (slices_of old) =
    ap (λ (h : Head). with_obu h obu.unit (slice_range old.bytes.now view.at view.end) (slices_of old)) f.head
    ∙ ap₂ (λ (m : Option ℕ) (b : List ℕ). with_obu o.value.head m b (slices_of old)) f.number_is piece in
    record {
      same = same ∙ h.same;
      obus = os ++ o ∷ [];
      entries_are = map-append entry_of os (o ∷ []) ∙ ap (λ (es : List Entry). es ++ e ∷ []) h.entries_are;
      bytes_are = bytes-push os o ∙ ap (λ (b : List ℕ). b ++ o.bytes) h.bytes_are ∙ sym grown;
      admitted = admitted_more [] os o h.admitted f.spelled f.admissible;
      gathered = subst (λ (s : Slices). IsGathered s (os ++ o ∷ [])) (sym (added ∙ next)) (gathers (slices_of old) os o f.adds h.gathered);
      sliced = sliced;
    }
