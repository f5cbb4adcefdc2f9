-- What is rebuilt of the body of a sequence reads with this body, and the file that is written of it holds it.
use Rattle.std.proofs.Common.{◌≡◌, ℕ, zero, suc, ◌≤◌, ◌^◌, Bool, true, false, cond, eqb, List, [], ◌∷◌, ◌++◌, length, refl, sym, ap, ◌∙◌, length-append, subst, arith, ap₂}
use Rattle.std.specs.Prelude.{All, if◌then◌else◌}
use Rattle.std.specs.List.{flat_map}
use Rattle.std.proofs.lemmas.List.Elements.{All-append}
use Rattle.spec_obu.specs.Header.{Header}
use Rattle.spec_obu.specs.Listing.{Obu}
use Rattle.spec_rules.specs.Role.{Role}
use Rattle.spec_rules.specs.Units.{unit_after, unit_count}
use Rattle.spec_boxes.specs.ObuLists.{WholeObus}
use Rattle.spec_boxes.specs.Laws.{Holds}
use Rattle.spec_boxes.proofs.Answer.{one_answer as box_answer}
use Rattle.spec_files.specs.Body.{is_descriptor, is_data, descriptor_bytes, rebuilt, IsBody}
use Rattle.spec_files.specs.Laws.{IsSmall}
use Rattle.spec_files.specs.MovieFile.{file}
use Rattle.spec_files.proofs.FileLaw as file_law
use Rattle.spec_bodies.specs.Spelled.{Spelled, obu_of, role_of, obus_of, roles_of, bytes_of, AdmittedAfter, AreSequence}
use Rattle.spec_bodies.specs.SequenceBody.{placed_after, bytes_if, unit_bytes, units_up_to, units, descriptors}
use Rattle.spec_bodies.specs.SequenceFile.{movie_of}
use Rattle.spec_bodies.specs.Laws.{WrittenHolds, RebuiltReads, OneFile, OneBare, FileKeepsBody}
use Rattle.spec_bodies.proofs.Sequences.{one_sequence}
use Rattle.spec_bodies.proofs.OneMore.{up_to-same}
use Rattle.spec_bodies.proofs.Rebuilt.{ends}
use Rattle.spec_bodies.proofs.Rebuilding.{Rebuilds, rebuilds}

-- ---- the rebuilt sequence

units_same : (os qs : List Spelled) → Rebuilds os qs → units qs ≡ units os
unfolding units unit_bytes
units_same os qs r =
    ap (units_up_to qs) r.roles.units ∙ up_to-same qs os (unit_count (roles_of os)) (λ v less. ap (flat_map (bytes_if v)) r.placed_same)

pub rebuilt_reads : RebuiltReads
rebuilt_reads os h =
    let found = rebuilds os h.admitted in
    let r = found.1 in
    record {
      obus = found.0;
      bytes_are = sym r.bytes;
      are = record { admitted = r.admitted; ended = ends (roles_of os) (roles_of found.0) r.roles h.ended };
      descriptors_are = r.descriptors_same;
      units_are = units_same os found.0 r;
    }

-- ---- the body is whole OBUs

abbrev HaveHeaders : List Spelled → Type 0
HaveHeaders [] = Unit {0}
HaveHeaders (o ∷ os) = Header o.value.head o.payload o.bytes × HaveHeaders os

headers : (past os : List Spelled) → AdmittedAfter past os → HaveHeaders os
headers past [] h = tt
headers past (o ∷ os) h = (h.0.header, headers (past ++ o ∷ []) os h.2)

whole_none : (test : Obu → Bool) → WholeObus test []
whole_none test = record { obus = []; all = tt; bytes_are = refl }

whole_more : (test : Obu → Bool) (o : Obu) (bytes : List ℕ) → Header o.head o.payload o.bytes → test o ≡ true → WholeObus test bytes → WholeObus test (o.bytes ++ bytes)
whole_more test o bytes header passes w = record { obus = o ∷ w.obus; all = (header, passes, w.all); bytes_are = ap (λ (b : List ℕ). o.bytes ++ b) w.bytes_are }

described : (os : List Spelled) → HaveHeaders os → WholeObus is_descriptor (descriptor_bytes (obus_of os))
described [] h = whole_none is_descriptor
described (o ∷ os) h = one (is_descriptor (obu_of o)) refl (described os h.1) where
  one : (b : Bool) → is_descriptor (obu_of o) ≡ b → WholeObus is_descriptor (descriptor_bytes (obus_of os)) → WholeObus is_descriptor (cond b (o.bytes ++ descriptor_bytes (obus_of os)) (descriptor_bytes (obus_of os)))
  one true e rest = whole_more is_descriptor (obu_of o) (descriptor_bytes (obus_of os)) h.0 e rest
  one false e rest = rest

-- what is placed is data
abbrev AreData : List (ℕ × Spelled) → Type 0
AreData [] = Unit {0}
AreData (p ∷ ps) = Header (p.1).value.head (p.1).payload (p.1).bytes × (is_data (obu_of p.1) ≡ true) × AreData ps

placed_data : (l : List Role) (os : List Spelled) → HaveHeaders os → AreData (placed_after l os)
placed_data l [] h = tt
placed_data l (o ∷ os) h = one (is_data (obu_of o)) refl (placed_data (l ++ role_of o ∷ []) os h.1) where
  one : (b : Bool) → is_data (obu_of o) ≡ b → AreData (placed_after (l ++ role_of o ∷ []) os) → AreData ((if b then (unit_after l (role_of o), o) ∷ [] else []) ++ placed_after (l ++ role_of o ∷ []) os)
  one true e rest = (h.0, e, rest)
  one false e rest = rest

unit_whole : (v : ℕ) (ps : List (ℕ × Spelled)) → AreData ps → WholeObus is_data (flat_map (bytes_if v) ps)
unit_whole v [] h = whole_none is_data
unit_whole v (p ∷ ps) h = one (eqb p.0 v) (unit_whole v ps h.2) where
  one : (b : Bool) → WholeObus is_data (flat_map (bytes_if v) ps) → WholeObus is_data (cond b (p.1).bytes [] ++ flat_map (bytes_if v) ps)
  one true rest = whole_more is_data (obu_of p.1) (flat_map (bytes_if v) ps) h.0 h.1 rest
  one false rest = rest

abbrev IsData : List ℕ → Type 0
IsData u = WholeObus is_data u

one_unit : (u : List ℕ) → IsData u → All IsData (u ∷ [])
one_unit u is zero d less = is
one_unit u is (suc k) d less = absurd (omega arith)

units_whole : (os : List Spelled) (n : ℕ) → ((v : ℕ) → IsData (unit_bytes os v)) → All IsData (units_up_to os n)
units_whole os zero each = λ k d less. absurd (omega arith)
units_whole os (suc n) each = All-append IsData (units_up_to os n) (unit_bytes os n ∷ []) (units_whole os n each) (one_unit (unit_bytes os n) (each n))

each_whole : (os : List Spelled) (v : ℕ) → HaveHeaders os → IsData (unit_bytes os v)
unfolding unit_bytes
each_whole os v h = unit_whole v (placed_after [] os) (placed_data [] os h)

pub is_body : (os : List Spelled) → AreSequence os → IsBody (descriptors os) (units os)
unfolding descriptors units
is_body os h =
    let all = headers [] os h.admitted in
    record { describes = described os all; carry = units_whole os (unit_count (roles_of os)) (λ v. each_whole os v all) }

-- ---- the written file

up_to-length : (os : List Spelled) (n : ℕ) → length (units_up_to os n) ≡ n
up_to-length os zero = refl
up_to-length os (suc n) = length-append (units_up_to os n) (unit_bytes os n ∷ []) ∙ omega (arith, up_to-length os n)

pub unit_count_is : (os : List Spelled) → length (units os) ≡ unit_count (roles_of os)
unfolding units
unit_count_is os = up_to-length os (unit_count (roles_of os))

pub is_small : (os : List Spelled) → AreSequence os → length (bytes_of os) ≤ 2 ^ 30 → IsSmall (movie_of os)
is_small os h small =
    let r = (rebuilds os h.admitted).1 in
    record { bytes = omega (arith, r.small, small); units = omega (arith, r.few, small, unit_count_is os) }

pub written_holds : WrittenHolds
written_holds os h small =
    (file_law.file_holds (movie_of os) (is_small os h small) (is_body os h), file_law.holds_only (movie_of os) (is_small os h small) (is_body os h))

-- ---- the file and what is read out of it

pub one_file : OneFile
one_file bytes f g h k =
    h.written_is ∙ ap (λ (os : List Spelled). file (movie_of os)) (one_sequence h.obus k.obus h.are k.are (sym h.bytes_are ∙ k.bytes_are)) ∙ sym k.written_is

pub one_bare : OneBare
one_bare f b c h k =
    let same = (box_answer true f).one_track h.config k.config h.samples k.samples h.holds k.holds in
    h.built ∙ ap₂ rebuilt same.0 same.1 ∙ sym k.built

pub file_keeps_body : FileKeepsBody
file_keeps_body bytes f small h =
    let os = h.obus in
    let holds = written_holds os h.are (subst (λ (b : List ℕ). length b ≤ 2 ^ 30) h.bytes_are small) in (
      rebuilt (descriptors os) (units os),
      descriptors os,
      units os,
      record { config = descriptors os; samples = units os; holds = subst (λ (g : List ℕ). Holds g (descriptors os) (units os)) (sym h.written_is) holds.0; built = refl },
      record { obus = os; bytes_are = h.bytes_are; are = h.are; descriptors_are = refl; units_are = refl },
      rebuilt_reads os h.are,
    )
