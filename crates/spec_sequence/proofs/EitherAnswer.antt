-- Bytes are read as a sequence, or they are refused.
use Rattle.std.proofs.Common.{◌≡◌, ℕ, zero, suc, ◌≤◌, ◌⊎◌, inl, inr, List, [], ◌∷◌, ◌++◌, length, refl, sym, ap, subst, ◌∙◌, arith, append_assoc, append-nil, length-append}
use Rattle.std.specs.Prelude.{Option, Some, None}
use Rattle.spec_bits.specs.Bits.{AreBytes}
use Rattle.spec_obu.specs.Header.{Head, Header, first_byte}
use Rattle.spec_obu.specs.Laws.{HasHeader}
use Rattle.spec_obu.proofs.OneHeader as header
use Rattle.spec_values.specs.declared.fault.Fault.{Fault}
use Rattle.spec_values.specs.declared.fault.Fault.TheVariants as fault
use Rattle.spec_values.specs.Value.{ObuValue, Spells}
use Rattle.spec_sequence.specs.ValueRole.{role}
use Rattle.spec_rules.specs.Rules.{fault_after, end_fault}
use Rattle.spec_sequence.specs.Reading.{Entry, values_of, roles, context_after, early_fault, IsAdmissible, Early, OfPayload, Late, AdmittedAfter, FailsAt, AtEnd, OfHeader, OfObu}
use Rattle.spec_sequence.specs.Laws.{EitherReadsOrRefused}
use Rattle.spec_bits.proofs.ByteForms.{AreBytes-parts}
use Rattle.spec_values.proofs.Payloads as payload

-- after the past, the bytes are OBUs to the end of a sequence
record ReadsOn (past : List Entry) (bytes : List ℕ) : Type 0 where
  pub entries : List Entry
  pub admitted : AdmittedAfter past bytes entries
  pub whole : end_fault (roles (past ++ entries)) ≡ None

-- or they are OBUs up to a fault
record FailsOn (past : List Entry) (bytes : List ℕ) : Type 0 where
  pub good : List ℕ
  pub rest : List ℕ
  pub entries : List Entry
  pub fault : Fault
  pub splits : bytes ≡ good ++ rest
  pub admitted : AdmittedAfter past good entries
  pub fails : FailsAt (past ++ entries) rest fault

abbrev Settled : List Entry → List ℕ → Type 0
Settled past bytes = ReadsOn past bytes ⊎ FailsOn past bytes

fails_here : (past : List Entry) (bytes : List ℕ) (f : Fault) → FailsAt past bytes f → Settled past bytes
fails_here past bytes f h =
    inr (record { good = []; rest = bytes; entries = []; fault = f; splits = refl; admitted = refl; fails = subst (λ (p : List Entry). FailsAt p bytes f) (sym (append-nil past)) h })

settled_end : (past : List Entry) (o : Option Fault) → end_fault (roles past) ≡ o → Settled past []
settled_end past None e = inl (record { entries = []; admitted = refl; whole = ap (λ (p : List Entry). end_fault (roles p)) (append-nil past) ∙ e })
settled_end past (Some f) e = fails_here past [] f (AtEnd refl e)

-- an OBU without a fault, and what follows it
settled_more : (past : List Entry) (bytes piece rest : List ℕ) (e : Entry) → bytes ≡ piece ++ rest → Spells (context_after past) e.value e.payload piece → IsAdmissible past e → Settled (past ++ e ∷ []) rest → Settled past bytes
settled_more past bytes piece rest e is s a (inl r) =
    inl (
    record {
      entries = e ∷ r.entries;
      admitted = (piece, rest, is, s, a, r.admitted);
      whole = ap (λ (p : List Entry). end_fault (roles p)) (sym (append_assoc past (e ∷ []) r.entries)) ∙ r.whole;
    }
    )
settled_more past bytes piece rest e is s a (inr r) =
    inr (
    record {
      good = piece ++ r.good;
      rest = r.rest;
      entries = e ∷ r.entries;
      fault = r.fault;
      splits = is ∙ ap (λ (b : List ℕ). piece ++ b) r.splits ∙ sym (append_assoc piece r.good r.rest);
      admitted = (piece, r.good, refl, s, a, r.admitted);
      fails = subst (λ (p : List Entry). FailsAt p r.rest r.fault) (append_assoc past (e ∷ []) r.entries) r.fails;
    }
    )

-- ---- one OBU

-- the bytes of a payload are bytes
payload_bytes : (h : Head) (payload front : List ℕ) → AreBytes front → Header h payload front → AreBytes payload
payload_bytes h payload front are is =
    let all : AreBytes (first_byte h ∷ (is.size ++ (is.trim ++ (is.extension ++ payload)))) = subst AreBytes is.bytes are in
    let after_size = AreBytes-parts is.size (is.trim ++ (is.extension ++ payload)) all.1 in
    let after_trim = AreBytes-parts is.trim (is.extension ++ payload) after_size.1 in
    (AreBytes-parts is.extension payload after_trim.1).1

abbrev Others : List Entry → List ℕ → Type 0
Others past rest = (e : Entry) → Settled (past ++ e ∷ []) rest

settled_late : (past : List Entry) (bytes : List ℕ) (h : HasHeader bytes) (o : ObuValue) (f : Option Fault) → h.head ≡ o.head → Spells (context_after past) o h.payload h.front → early_fault past o.head h.payload ≡ None
    → fault_after (roles past) (role o) ≡ f → Others past h.rest → Settled past bytes
settled_late past bytes h o None same s early late others =
    settled_more past bytes h.front h.rest (record { value = o; payload = h.payload }) h.parts s (record { early = early; late = late }) (others (record { value = o; payload = h.payload }))
settled_late past bytes h o (Some f) same s early late others =
    fails_here past bytes f (OfObu o.head h.payload h.front h.rest h.parts s.header (Late early o.content o.tail s.payload_is late))

settled_early : (past : List Entry) (bytes : List ℕ) (h : HasHeader bytes) (f : Option Fault) → AreBytes h.payload → early_fault past h.head h.payload ≡ f → Others past h.rest → Settled past bytes
settled_early past bytes h (Some f) are early others = fails_here past bytes f (OfObu h.head h.payload h.front h.rest h.parts h.is (Early early))
settled_early past bytes h None are early others = elim (payload.either (context_after past) h.head.kind h.payload are) [
  | inl p ↦
      let o : ObuValue = record { head = h.head; content = p.0; tail = p.1 } in
      settled_late past bytes h o (fault_after (roles past) (role o)) refl (record { header = h.is; payload_is = p.2 }) early refl others
  | inr g ↦ fails_here past bytes g.0 (OfObu h.head h.payload h.front h.rest h.parts h.is (OfPayload early g.1))
]

shorter_rest : (h : Head) (payload front rest bytes : List ℕ) (n : ℕ) → Header h payload front → bytes ≡ front ++ rest → length bytes ≤ suc n → length rest ≤ n
shorter_rest h payload front rest bytes n is parts le =
    omega (arith, le, ap length parts, length-append front rest, ap length is.bytes)

-- ---- all of them

settled : (n : ℕ) (past : List Entry) (bytes : List ℕ) → length bytes ≤ n → AreBytes bytes → Settled past bytes
settled n past [] le are = settled_end past (end_fault (roles past)) refl
settled zero past (x ∷ xs) le are = absurd (omega arith)
settled (suc n) past (x ∷ xs) le are = elim (header.either (x ∷ xs) are (omega arith)) [
  | inl h ↦
      let parts = AreBytes-parts h.front h.rest (subst AreBytes h.parts are) in
      settled_early past (x ∷ xs) h (early_fault past h.head h.payload) (payload_bytes h.head h.payload h.front parts.0 h.is) refl
      (λ e. settled n (past ++ e ∷ []) h.rest (shorter_rest h.head h.payload h.front h.rest (x ∷ xs) n h.is h.parts le) parts.1)
  | inr g ↦ fails_here past (x ∷ xs) (fault.Header g.0) (OfHeader g.0 g.1 (λ e. cc) refl)
]

pub either_answer : EitherReadsOrRefused
either_answer bytes are = elim (settled (length bytes) [] bytes (omega arith) are) [
  | inl r ↦ inl (values_of r.entries, record { entries = r.entries; values_are = refl; admitted = r.admitted; whole = r.whole })
  | inr r ↦ inr (length r.good, r.fault, record { good = r.good; rest = r.rest; entries = r.entries; splits = r.splits; place = refl; admitted = r.admitted; fails = r.fails })
]
