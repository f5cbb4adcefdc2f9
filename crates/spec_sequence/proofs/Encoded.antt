-- What is written of a sequence that was read reads as the same values, and canonical bytes are written as they were.
use Rattle.std.proofs.Common.{◌≡◌, ℕ, true, inl, inr, List, [], ◌∷◌, ◌++◌, map, refl, sym, ap, subst, ◌∙◌}
use Rattle.std.specs.Prelude.{None}
use Rattle.std.specs.Str.{bytes_eq}
use Rattle.std.specs.Cmp.Lexicographic.{bytes_decides}
use Rattle.std.proofs.lemmas.Bool.{or_cases, or_left, or_right, cases_Bool, eq-eqb}
use Rattle.std.proofs.lemmas.List.{map-append}
use Rattle.spec_values.specs.declared.fault.Fault.TheVariants as fault
use Rattle.spec_obu.specs.Kinds.{obu_type_of, is_descriptor}
use Rattle.spec_values.specs.Content.{Content, by_length, PayloadOf}
use Rattle.spec_values.specs.Value.{ObuValue, Spells}
use Rattle.spec_values.specs.Canonical.{canonical_payload, canonical_obu, encoded}
use Rattle.spec_rules.specs.Role.{Role}
use Rattle.spec_sequence.specs.ValueRole.{role}
use Rattle.spec_rules.specs.Descriptors.{frame_length, context_of}
use Rattle.spec_rules.specs.Rules.{fault_after, end_fault, fault_before}
use Rattle.spec_obu.specs.Header.{is_copy}
use Rattle.spec_sequence.specs.Reading.{Entry, values_of, roles, context_after, is_copied, is_repeated, early_fault, IsAdmissible, AdmittedAfter, IsKnown, Known, Keeps}
use Rattle.spec_sequence.specs.Laws.{EncodedReads, EncodedSame}
use Rattle.spec_values.proofs.Payloads.{one_content, payload_of}
use Rattle.spec_values.proofs.Obus.{canonical_spells}
use Rattle.spec_sequence.proofs.OneAnswer.{one_reading}
use Rattle.spec_sequence.proofs.FixedContext.{payload_now, keeps-nil, keeps-push}
use Rattle.spec_rules.proofs.NoFault.{is_there}
use Rattle.spec_sequence.proofs.RedundantCopies.{copy_kind, copied_parts, early_copy, early_plain}

-- the same OBU with its canonical payload
abbrev rewritten : Entry → Entry
rewritten e = record { value = e.value; payload = canonical_payload e.value }

abbrev all_rewritten : List Entry → List Entry
all_rewritten past = map rewritten past

roles-rewritten : (past : List Entry) → roles (all_rewritten past) ≡ roles past
roles-rewritten [] = refl
roles-rewritten (e ∷ es) = ap (λ (l : List Role). role e.value ∷ l) (roles-rewritten es)

values-rewritten : (es : List Entry) → values_of (all_rewritten es) ≡ values_of es
values-rewritten [] = refl
values-rewritten (e ∷ es) = ap (λ (l : List ObuValue). e.value ∷ l) (values-rewritten es)

-- ---- a redundant copy repeats the same OBU

copied_again : (n : ℕ) (o : ObuValue) (payload : List ℕ) (e : Entry) → IsKnown n e → is_descriptor (obu_type_of o.head.kind) ≡ true → PayloadOf (by_length n) o.head.kind o.content o.tail payload
    → is_copied o.head payload e ≡ true → is_copied o.head (canonical_payload o) (rewritten e) ≡ true
copied_again n o payload e known descriptor h same =
    let parts = copied_parts o.head payload e same in
    let kinds : e.value.head.kind ≡ o.head.kind = parts.1 in
    let old = known parts.0 (subst (λ (k : ℕ). is_descriptor (obu_type_of k) ≡ true) (sym kinds) descriptor) in
    let was : PayloadOf (by_length n) o.head.kind e.value.content e.value.tail payload =
    subst (λ (k : ℕ). PayloadOf (by_length n) k e.value.content e.value.tail payload) kinds (subst (λ (p : List ℕ). PayloadOf (by_length n) e.value.head.kind e.value.content e.value.tail p) parts.2 old) in
    let one = one_content (by_length n) o.head.kind payload e.value.tail o.tail e.value.content o.content was h in
    let written : canonical_payload e.value ≡ canonical_payload o =
    ap (λ (k : ℕ). payload_of k e.value.content e.value.tail) kinds ∙ ap (λ (c : Content). payload_of o.head.kind c e.value.tail) one.0 ∙ ap (payload_of o.head.kind o.content) one.1 in
    let equal : bytes_eq (canonical_payload e.value) (canonical_payload o) ≡ true = (bytes_decides (canonical_payload e.value) (canonical_payload o)).1 written in
    rw (parts.0, eq-eqb e.value.head.kind o.head.kind kinds, equal) refl

repeated_again : (n : ℕ) (o : ObuValue) (payload : List ℕ) (past : List Entry) → Known n past → is_descriptor (obu_type_of o.head.kind) ≡ true → PayloadOf (by_length n) o.head.kind o.content o.tail payload
    → is_repeated past o.head payload ≡ true → is_repeated (all_rewritten past) o.head (canonical_payload o) ≡ true
repeated_again n o payload [] known descriptor h e = e
repeated_again n o payload (x ∷ xs) known descriptor h e = elim (or_cases (is_copied o.head payload x) (is_repeated xs o.head payload) e) [
  | inl here ↦ or_left (is_copied o.head (canonical_payload o) (rewritten x)) (is_repeated (all_rewritten xs) o.head (canonical_payload o)) (copied_again n o payload x known.0 descriptor h here)
  | inr there ↦ or_right (is_copied o.head (canonical_payload o) (rewritten x)) (is_repeated (all_rewritten xs) o.head (canonical_payload o)) (repeated_again n o payload xs known.1 descriptor h there)
]

-- ---- no fault comes by canonical payloads

early_again : (past : List Entry) (o : ObuValue) (payload piece : List ℕ) → Keeps past → Spells (context_after past) o payload piece
    → early_fault past o.head payload ≡ None → early_fault (all_rewritten past) o.head (canonical_payload o) ≡ None
early_again past o payload piece k s none = elim (cases_Bool (is_copy o.head)) [
  | inl copy ↦
      let descriptor = copy_kind o.head s.header.allowed copy in
      let there = is_there (is_repeated past o.head payload) fault.Redundant (sym (early_copy past o.head payload copy) ∙ none) in
      let now = payload_now past o.head.kind o.content o.tail payload descriptor s.payload_is in
      early_copy (all_rewritten past) o.head (canonical_payload o) copy ∙ rw (repeated_again (frame_length (roles past)) o payload past k.known descriptor now there) refl
  | inr plain ↦
      early_plain (all_rewritten past) o.head (canonical_payload o) plain ∙ ap (λ (l : List Role). fault_before l (obu_type_of o.head.kind)) (roles-rewritten past) ∙ sym (early_plain past o.head payload plain) ∙ none
]

-- ---- the whole list

encoded_after : (past : List Entry) (bytes : List ℕ) (es : List Entry) → Keeps past → AdmittedAfter past bytes es → AdmittedAfter (all_rewritten past) (encoded (values_of es)) (all_rewritten es)
encoded_after past bytes [] k h = refl
encoded_after past bytes (e ∷ es) k h =
    let o = e.value in
    let spelled : Spells (context_after (all_rewritten past)) o (canonical_payload o) (canonical_obu o) =
    subst (λ (l : List Role). Spells (context_of l) o (canonical_payload o) (canonical_obu o)) (sym (roles-rewritten past)) (canonical_spells (context_after past) o e.payload h.0 h.3) in
    let admissible : IsAdmissible (all_rewritten past) (rewritten e) =
    record { early = early_again past o e.payload h.0 k h.3 h.4.early; late = ap (λ (l : List Role). fault_after l (role o)) (roles-rewritten past) ∙ h.4.late } in
    let others = encoded_after (past ++ e ∷ []) h.1 es (keeps-push past e k h.3.payload_is h.4) h.5 in
    (canonical_obu o, encoded (values_of es), refl, spelled, admissible, subst (λ (p : List Entry). AdmittedAfter p (encoded (values_of es)) (all_rewritten es)) (map-append rewritten past (e ∷ [])) others)

pub encoded_reads : EncodedReads
encoded_reads bytes s h = record {
  entries = all_rewritten h.entries;
  values_are = values-rewritten h.entries ∙ h.values_are;
  admitted = subst (λ (l : List ObuValue). AdmittedAfter [] (encoded l) (all_rewritten h.entries)) h.values_are (encoded_after [] bytes h.entries keeps-nil h.admitted);
  whole = ap end_fault (roles-rewritten h.entries) ∙ h.whole;
}

pub encoded_same : EncodedSame
encoded_same bytes s t h g is = ap encoded (one_reading bytes s t h g) ∙ sym is
