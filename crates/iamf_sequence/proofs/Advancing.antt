-- One more OBU of the bytes, or the first fault.
use Rattle.std.proofs.Common.{◌≡◌, ℕ, ◌-◌, ◌<◌, ◌≤◌, List, [], ◌∷◌, ◌++◌, take, drop, length, refl, sym, ap, subst, ◌∙◌, arith, append_assoc, append-nil, length-drop}
use Rattle.std.specs.Prelude.{Option, Some, Err, map}
use Rattle.std.proofs.lemmas.List.{map-append, take-append-drop, length-take-le}
use Rattle.std.proofs.Math.Seq.{take-add, take-length, drop-length}
use Rattle.spec_obu.specs.declared.HeaderFault.{HeaderFault}
use Rattle.spec_obu.specs.Header.{Head, Header}
use Rattle.spec_obu.specs.Faults as header
use Rattle.spec_values.specs.declared.fault.Fault.{Fault}
use Rattle.spec_values.specs.declared.fault.Fault.TheVariants as fault
use Rattle.spec_values.specs.Value.{Spells}
use Rattle.spec_rules.specs.Role.{Role}
use Rattle.spec_sequence.specs.ValueRole.{role}
use Rattle.spec_rules.specs.Rules.{end_fault}
use Rattle.spec_sequence.specs.Reading.{Entry, values_of, roles, context_after, IsAdmissible, HasFault, AdmittedAfter, Admitted, FailsAt, AtEnd, OfHeader, OfObu, Refuses}
use Rattle.spec_sequence.proofs.Roles.{roles_more}
use Rattle.iamf_bits.specs.declared.unread.Unread.{Unread}
use Rattle.iamf_bits.specs.declared.unread.Unread.TheVariants as unread
use Rattle.iamf_admission.specs.declared.admitted.Admitted.{Admitted as AdmittedObu}
use Rattle.iamf_admission.specs.AdmissionView.{AdmissionValue, Takes}
use Rattle.iamf_admission.specs.Numbers.{number_after}
use Rattle.obu_header.specs.declared.view.ObuView.{ObuView}
use Rattle.obu_header.specs.View.{head_of}
use Rattle.iamf_sequence.specs.declared.draft.Draft.{Draft}
use Rattle.iamf_sequence.specs.declared.parts.Placed.{Placed}
use Rattle.iamf_sequence.specs.Places.{not_taken_at, refused_at, IsRefused, Tiles}
use Rattle.iamf_sequence.specs.ContentsView.{AreContents}
use Rattle.iamf_sequence.specs.Walking.{IsAtPlace}
use Rattle.iamf_sequence.specs.SequenceView.{AreViews, numbers_after, views_of}
use Rattle.iamf_sequence.specs.DraftView.{IsPlaced}
use Rattle.iamf_sequence.proofs.Tiling.{tiles_more}

-- ---- lists

pub admitted_last : (past : List Entry) (bytes piece : List ℕ) (es : List Entry) (e : Entry) → AdmittedAfter past bytes es → Spells (context_after (past ++ es)) e.value e.payload piece → IsAdmissible (past ++ es) e
    → AdmittedAfter past (bytes ++ piece) (es ++ e ∷ [])
admitted_last past bytes piece [] e h s a =
    let same : past ++ [] ≡ past = append-nil past in
    (piece, [], ap (λ (b : List ℕ). b ++ piece) h ∙ sym (append-nil piece), subst (λ (p : List Entry). Spells (context_after p) e.value e.payload piece) same s, subst (λ (p : List Entry). IsAdmissible p e) same a, refl)
admitted_last past bytes piece (x ∷ xs) e h s a =
    let same : past ++ x ∷ xs ≡ (past ++ x ∷ []) ++ xs = sym (append_assoc past (x ∷ []) xs) in (
      h.0,
      h.1 ++ piece,
      ap (λ (b : List ℕ). b ++ piece) h.2 ∙ append_assoc h.0 h.1 piece,
      h.3,
      h.4,
      admitted_last (past ++ x ∷ []) h.1 piece xs e h.5 (subst (λ (p : List Entry). Spells (context_after p) e.value e.payload piece) same s) (subst (λ (p : List Entry). IsAdmissible p e) same a),
    )

views_last : (os : List ObuView) (o : ObuView) (es : List Entry) (e : Entry) → AreViews os es → head_of o.head ≡ e.value.head → o.payload.now ≡ e.payload → AreViews (os ++ o ∷ []) (es ++ e ∷ [])
views_last [] o [] e h head payload = (head, payload, tt)
views_last (x ∷ xs) o (y ∷ ys) e h head payload = (h.0, h.1, views_last xs o ys e h.2 head payload)
views_last [] o (y ∷ ys) e h head payload = absurd h
views_last (x ∷ xs) o [] e h head payload = absurd h

numbers_last : (l os : List Role) (o : Role) → numbers_after l (os ++ o ∷ []) ≡ numbers_after l os ++ number_after (l ++ os) o ∷ []
numbers_last l [] o = ap (λ (m : List Role). number_after m o ∷ []) (sym (append-nil l))
numbers_last l (x ∷ xs) o =
    ap (λ (ns : List (Option ℕ)). number_after l x ∷ ns) (numbers_last (l ++ x ∷ []) xs o ∙ ap (λ (m : List Role). numbers_after (l ++ x ∷ []) xs ++ number_after m o ∷ []) (append_assoc l (x ∷ []) xs))

-- ---- one more OBU

-- up to the end of the OBU the bytes are the list and it
pub admitted_more : (bytes : List ℕ) (at : ℕ) (view : ObuView) (obu : AdmittedObu) (l : List Entry) (e : Entry) → Admitted (take at bytes) l → IsAtPlace bytes at view obu l e → Admitted (take view.end bytes) (l ++ e ∷ [])
admitted_more bytes at view obu l e before is =
    let piece : List ℕ = take (view.end - at) (drop at bytes) in
    let next = is.taken.next in
    let spelled : Header e.value.head e.payload piece =
    subst (λ (h : Head). Header h e.payload piece) (sym next.head) (subst (λ (b : List ℕ). Header (head_of view.head) b piece) (sym next.payload) is.header) in
    let grown : take view.end bytes ≡ take at bytes ++ piece = ap (λ (n : ℕ). take n bytes) (omega (arith, is.onward)) ∙ take-add at (view.end - at) bytes in
    subst (λ (b : List ℕ). Admitted b (l ++ e ∷ [])) (sym grown) (admitted_last [] (take at bytes) piece l e before (record { header = spelled; payload_is = next.payload_is }) next.admissible)

-- the OBU as it is kept
abbrev pub placed : ObuView → AdmittedObu → Placed
placed view obu = record { view = view; unit = obu.unit }

pub placed_more : (bytes : List ℕ) (at : ℕ) (old new : Draft) (view : ObuView) (obu : AdmittedObu) (l : List Entry) (e : Entry) → IsPlaced old bytes at l → IsAtPlace bytes at view obu l e
    → new.obus.items ≡ old.obus.items ++ placed view obu ∷ [] → AreContents new.contents (values_of (l ++ e ∷ [])) → IsPlaced new bytes view.end (l ++ e ∷ [])
placed_more bytes at old new view obu l e is then more contents = record {
  contents = contents;
  views = subst (λ (ps : List Placed). AreViews (views_of ps) (l ++ e ∷ [])) (sym more) (subst (λ (vs : List ObuView). AreViews vs (l ++ e ∷ [])) (sym (map-append (λ o. o.view) old.obus.items (placed view obu ∷ [])))
      (views_last (views_of old.obus.items) view l e is.views (sym then.taken.next.head) (sym then.taken.next.payload)));
  tiles = subst (λ (ps : List Placed). Tiles bytes 0 (views_of ps) view.end) (sym more) (tiles_more bytes 0 at old.obus.items (placed view obu) is.tiles then.place then.onward then.header);
  numbers = ap (map (λ (o : Placed). o.unit)) more ∙ map-append (λ o. o.unit) old.obus.items (placed view obu ∷ []) ∙ ap (λ (ns : List (Option ℕ)). ns ++ obu.unit ∷ []) is.numbers
      ∙ ap (λ (n : Option ℕ). numbers_after [] (roles l) ++ n ∷ []) then.taken.unit ∙ sym (ap (numbers_after []) (roles_more l e) ∙ numbers_last [] (roles l) (role e.value));
}

-- ---- the first fault

refuses : (bytes : List ℕ) (at : ℕ) (l : List Entry) (f : Fault) → at ≤ length bytes → Admitted (take at bytes) l → FailsAt l (drop at bytes) f → Refuses bytes at f
refuses bytes at l f within admitted fails = record {
  good = take at bytes;
  rest = drop at bytes;
  entries = l;
  splits = sym (take-append-drop at bytes);
  place = sym (length-take-le at bytes within);
  admitted = admitted;
  fails = fails;
}

some_left : (bytes : List ℕ) (at : ℕ) → at < length bytes → drop at bytes ≡ [] → ⊥
some_left bytes at before none = omega (arith, before, ap length none, length-drop at bytes)

pub header_refused : (bytes : List ℕ) (at : ℕ) (l : List Entry) (h : HeaderFault) → at < length bytes → Admitted (take at bytes) l → header.IsFirstFault h (drop at bytes) → IsRefused bytes (refused_at at (fault.Header h))
header_refused bytes at l h before admitted first = refuses bytes at l (fault.Header h) (omega (arith, before)) admitted (OfHeader h first (some_left bytes at before) refl)

obu_refused : (bytes : List ℕ) (at : ℕ) (l : List Entry) (view : ObuView) (f : Fault) → at < length bytes → Admitted (take at bytes) l
    → Header (head_of view.head) view.payload.now (take (view.end - at) (drop at bytes)) → HasFault l (head_of view.head) view.payload.now f → IsRefused bytes (refused_at at f)
obu_refused bytes at l view f before admitted header fault =
    refuses bytes at l f (omega (arith, before)) admitted
    (OfObu (head_of view.head) view.payload.now (take (view.end - at) (drop at bytes)) (drop (view.end - at) (drop at bytes)) (sym (take-append-drop (view.end - at) (drop at bytes))) header fault)

-- the OBU at the place is not admitted
pub not_taken_refused : (bytes : List ℕ) (at : ℕ) (l : List Entry) (view : ObuView) (error : Unread Fault) (new : AdmissionValue) → at < length bytes → Admitted (take at bytes) l
    → Header (head_of view.head) view.payload.now (take (view.end - at) (drop at bytes)) → Takes new (Err error) l view → IsRefused bytes (not_taken_at at error)
not_taken_refused bytes at l view (unread.Fault f) new before admitted header takes = obu_refused bytes at l view f before admitted header takes.0
not_taken_refused bytes at l view (unread.Memory e) new before admitted header takes = tt

pub end_refused : (bytes : List ℕ) (l : List Entry) (f : Fault) → Admitted bytes l → end_fault (roles l) ≡ Some f → IsRefused bytes (refused_at (length bytes) f)
end_refused bytes l f admitted fails = refuses bytes (length bytes) l f (omega arith) (subst (λ (b : List ℕ). Admitted b l) (sym (take-length bytes)) admitted) (AtEnd (drop-length bytes) fails)
