-- OBUs that are admitted one after the other, and the refusals of others.
use Rattle.std.proofs.Common.{◌≡◌, ℕ, ◌+◌, ◌^◌, ◌<◌, ◌≤◌, List, [], ◌∷◌, ◌++◌, length, take, drop, Result, Ok, Err, refl, sym, ap, subst, ◌∙◌, arith, append_assoc, append-nil, length-append}
use Rattle.std.proofs.lemmas.List.{length-take, take-append-drop}
use Rattle.std.proofs.Math.Seq.{drop-append-add}
use Rattle.spec_obu.specs.declared.HeaderFault.{HeaderFault}
use Rattle.spec_obu.specs.declared.HeaderFault.TheVariants.{Cut}
use Rattle.spec_obu.specs.Header.{Head, Header}
use Rattle.spec_values.specs.declared.fault.Fault.{Fault}
use Rattle.spec_values.specs.declared.fault.Fault.TheVariants as fault
use Rattle.spec_values.specs.Value.{Spells}
use Rattle.spec_sequence.specs.Reading.{Entry, context_after, IsAdmissible, HasFault, AdmittedAfter, Admitted, OfHeader, OfObu}
use Rattle.spec_streams.specs.Front.{IsSure}
use Rattle.spec_streams.specs.Settled.{Settled}
use Rattle.spec_streams.proofs.SureFaults.{no_size, obu_sized}
use Rattle.spec_streams.proofs.OwnFaults.{no_header_fault}
use Rattle.iamf_bits.specs.declared.unread.Unread.{Unread}
use Rattle.iamf_bits.specs.declared.unread.Unread.TheVariants as unread
use Rattle.obu_header.specs.declared.view.ObuView.{ObuView}
use Rattle.obu_header.specs.View.{head_of}
use Rattle.iamf_admission.specs.AdmissionView.{AdmissionValue}
use Rattle.iamf_admission.specs.Taking.{IsNext}
use Rattle.iamf_admission.specs.AdmissionView.{Stands as AdmissionStands, Admits as AdmissionAdmits}
use Rattle.iamf_stream.specs.Front.{IsObu}
use Rattle.iamf_sequence.specs.Places.{not_taken_at}
use Rattle.iamf_stream.specs.Standing.{Passed, HasRoom}
use Rattle.iamf_stream.specs.Steps.{Admits, Fails}

-- ---- one more OBU

admitted_push : (past : List Entry) (good piece : List ℕ) (es : List Entry) (e : Entry) → AdmittedAfter past good es → Spells (context_after (past ++ es)) e.value e.payload piece
    → IsAdmissible (past ++ es) e → AdmittedAfter past (good ++ piece) (es ++ e ∷ [])
admitted_push past good piece [] e h spells admissible =
    let none : past ++ [] ≡ past = append-nil past in (
      piece,
      [],
      ap (λ (b : List ℕ). b ++ piece) h ∙ sym (append-nil piece),
      subst (λ (p : List Entry). Spells (context_after p) e.value e.payload piece) none spells,
      subst (λ (p : List Entry). IsAdmissible p e) none admissible,
      refl,
    )
admitted_push past good piece (x ∷ xs) e h spells admissible =
    let more : past ++ (x ∷ xs) ≡ (past ++ x ∷ []) ++ xs = sym (append_assoc past (x ∷ []) xs) in (
      h.0,
      h.1 ++ piece,
      ap (λ (b : List ℕ). b ++ piece) h.2 ∙ append_assoc h.0 h.1 piece,
      h.3,
      h.4,
      admitted_push (past ++ x ∷ []) h.1 piece xs e h.5 (subst (λ (p : List Entry). Spells (context_after p) e.value e.payload piece) more spells) (subst (λ (p : List Entry). IsAdmissible p e) more admissible),
    )

-- an OBU has a byte at least
few_entries : (past : List Entry) (bytes : List ℕ) (es : List Entry) → AdmittedAfter past bytes es → length es ≤ length bytes
few_entries past bytes [] h = omega arith
few_entries past bytes (e ∷ es) h =
    omega (arith, few_entries (past ++ e ∷ []) h.1 es h.5, ap length h.2, length-append h.0 h.1, ap length h.3.header.bytes)

-- there is room for one more OBU
pub room_for_obu : (a : AdmissionValue) (place : ℕ) (rest : List ℕ) → 0 < length rest → HasRoom a place rest → a.admitted < 2 ^ 40
room_for_obu a place rest some h =
    let p = h.1 in
    omega (arith, h.2, some, few_entries [] p.good p.entries p.admitted, p.stands.count, ap length p.splits, length-append p.good rest)

-- the OBU at the front, and the bytes after it
obu_splits : (rest : List ℕ) (o : ObuView) → rest ≡ take o.end rest ++ drop o.end rest
obu_splits rest o = sym (take-append-drop o.end rest)

pub passed_obu : (a b : AdmissionValue) (place : ℕ) (rest stream : List ℕ) (o : ObuView) → Passed a place rest stream → IsObu rest o
    → ((past : List Entry) → AdmissionStands a past → (e : Entry) × IsNext past o e × AdmissionStands b (past ++ e ∷ [])) → Admits b o.end place rest stream
passed_obu a b place rest stream o p is admits =
    let step = admits p.entries p.stands in
    let e : Entry = step.0 in
    let next : IsNext p.entries o e = step.1 in
    let piece : List ℕ = take o.end rest in
    let header : Header e.value.head e.payload piece = rw (next.head, next.payload) is.header in
    record {
      some = is.begins;
      within = is.within;
      passed = record {
        good = p.good ++ piece;
        entries = p.entries ++ e ∷ [];
        splits = p.splits ∙ ap (λ (b : List ℕ). p.good ++ b) (obu_splits rest o) ∙ sym (append_assoc p.good piece (drop o.end rest));
        place_is = omega (arith, p.place_is, length-append p.good piece, length-take o.end rest, is.within);
        admitted = admitted_push [] p.good piece p.entries e p.admitted (record { header = header; payload_is = next.payload_is }) next.admissible;
        stands = step.2;
      };
    }

-- ---- a fault of the next one

-- its place is within the stream
place_within : (good rest stream : List ℕ) (place : ℕ) → stream ≡ good ++ rest → place ≡ length good → 0 < length rest → place < length stream
place_within good rest stream place splits is some = omega (arith, ap length splits, length-append good rest, is, some)

pub settled_obu : (a : AdmissionValue) (place : ℕ) (rest stream : List ℕ) (o : ObuView) (f : Fault) → Passed a place rest stream → IsObu rest o
    → ((past : List Entry) → AdmissionStands a past → HasFault past (head_of o.head) o.payload.now f) → Settled stream place f
settled_obu a place rest stream o f p is has =
    let fails = has p.entries p.stands in
    let sized = rw (← obu_splits rest o) at (obu_sized (head_of o.head) o.payload.now (take o.end rest) (drop o.end rest) is.header) in
    record {
      refused = record {
        good = p.good;
        rest = rest;
        entries = p.entries;
        splits = p.splits;
        place = p.place_is;
        admitted = p.admitted;
        fails = OfObu (head_of o.head) o.payload.now (take o.end rest) (drop o.end rest) (obu_splits rest o) is.header fails;
      };
      within = place_within p.good rest stream place p.splits p.place_is (omega (arith, is.begins, is.within));
      uncut = λ e. no_header_fault p.entries (head_of o.head) o.payload.now f Cut fails e;
      sized = rw (p.place_is, p.splits, drop-append-add p.good rest 1) sized;
    }

begun : (f : HeaderFault) (rest : List ℕ) → IsSure f rest → 0 < length rest
begun f [] s = let no : ⊥ = no_size s.sized in absurd no
begun f (x ∷ xs) s = omega arith

pub settled_header : (a : AdmissionValue) (place : ℕ) (rest stream : List ℕ) (f : HeaderFault) → Passed a place rest stream → IsSure f rest → Settled stream place (fault.Header f)
settled_header a place rest stream f p s = record {
  refused = record {
    good = p.good;
    rest = rest;
    entries = p.entries;
    splits = p.splits;
    place = p.place_is;
    admitted = p.admitted;
    fails = OfHeader f s.first (λ e. let some = begun f rest s in omega (arith, some, ap length e)) refl;
  };
  within = place_within p.good rest stream place p.splits p.place_is (begun f rest s);
  uncut = λ e. s.uncut (let same : f ≡ Cut = cc in same);
  sized = rw (p.place_is, p.splits, drop-append-add p.good rest 1) s.sized;
}

pub fails_obu : (a b : AdmissionValue) (place : ℕ) (rest stream : List ℕ) (o : ObuView) (error : Unread Fault) → Passed a place rest stream → IsObu rest o
    → ((past : List Entry) → AdmissionStands a past → AdmissionAdmits b (Err error) past o) → Fails (not_taken_at place error) stream
fails_obu a b place rest stream o (unread.Fault f) p is admits = settled_obu a place rest stream o f p is (λ past st. (admits past st).0)
fails_obu a b place rest stream o (unread.Memory e) p is admits = tt
