-- What a checker stands for, by its stage; and the end of a stream.
use Rattle.std.proofs.Common.{◌≡◌, ℕ, ◌+◌, ◌<◌, List, [], ◌∷◌, ◌++◌, length, Err, refl, sym, ap, subst, ◌∙◌, arith, append-nil, length-append}
use Rattle.spec_obu.specs.declared.HeaderFault.{HeaderFault}
use Rattle.spec_obu.specs.Faults.{IsFirstFault}
use Rattle.spec_values.specs.declared.fault.Fault.{Fault}
use Rattle.spec_values.specs.declared.fault.Fault.TheVariants.{Header}
use Rattle.spec_sequence.specs.Reading.{Entry, AtEnd, OfHeader, Refuses}
use Rattle.spec_streams.specs.Front.{IsPartial}
use Rattle.spec_streams.specs.Settled.{Settled}
use Rattle.spec_streams.proofs.Settling.{partial_not_settled}
use Rattle.iamf_bits.specs.declared.unread.Unread.{Unread}
use Rattle.iamf_bits.specs.declared.unread.Unread.TheVariants as unread
use Rattle.iamf_admission.specs.AdmissionView.{Stands as AdmissionStands}
use Rattle.iamf_admission.specs.Standing.{Ends as AdmissionEnds}
use Rattle.iamf_stream.specs.declared.open.Open.{Open}
use Rattle.iamf_sequence.specs.declared.refusal.Refusal.{Refusal}
use Rattle.iamf_stream.specs.declared.checker.Stage.{Stage}
use Rattle.iamf_stream.specs.declared.checker.Stage.TheVariants as stage
use Rattle.iamf_sequence.specs.Places.{not_taken_at}
use Rattle.iamf_stream.specs.Waiting.{IsWaiting}
use Rattle.iamf_stream.specs.Standing.{Stands as OpenStands}
use Rattle.iamf_stream.specs.Steps.{Ends}
use Rattle.iamf_stream.specs.CheckerView.{CheckerValue, Stands, IsUnsettled}

-- ---- by the stage

abbrev value : ℕ → Stage → CheckerValue
value fed s = record { fed = fed; stage = s }

pub stands_open : (v : CheckerValue) (fed : ℕ) (s : Stage) (o : Open) (stream : List ℕ) → value fed s ≡ v → s ≡ stage.Open o → Stands v stream → OpenStands o stream × (fed ≡ length stream)
stands_open v fed s o stream is going st =
    let here : Stands (value fed s) stream = subst (λ (w : CheckerValue). Stands w stream) (sym is) st in
    subst (λ (t : Stage). Stands (value fed t) stream) going here

pub stands_refused : (v : CheckerValue) (fed : ℕ) (s : Stage) (r : Refusal) (stream : List ℕ) → value fed s ≡ v → s ≡ stage.Refused r → Stands v stream → Settled stream r.at r.fault
stands_refused v fed s r stream is refused st =
    let here : Stands (value fed s) stream = subst (λ (w : CheckerValue). Stands w stream) (sym is) st in
    subst (λ (t : Stage). Stands (value fed t) stream) refused here

-- the bytes that wait are part of an OBU
pub waiting_partial : (bytes : List ℕ) (wanted : ℕ) → IsWaiting bytes wanted → IsPartial bytes
waiting_partial bytes wanted w = let here = w.partial [] (rw append-nil w.short) in rw append-nil at here

pub unsettled : (o : Open) (stream : List ℕ) → OpenStands o stream → IsUnsettled stream
unsettled o stream st at f settled =
    let p = st.passed in
    partial_not_settled p.good o.waiting.items p.entries at f p.admitted (waiting_partial o.waiting.items o.wanted st.waits) (rw p.splits at settled)

-- ---- the end

-- no bytes have no length
some_bytes : (bytes : List ℕ) → 0 < length bytes → bytes ≡ [] → ⊥
some_bytes bytes some e = omega (arith, some, ap length e)

no_bytes : (bytes : List ℕ) → length bytes ≡ 0 → bytes ≡ []
no_bytes [] e = refl
no_bytes (x ∷ xs) e = absurd (omega arith)

pub cut_off : (o : Open) (stream : List ℕ) (f : HeaderFault) → 0 < length o.waiting.items → OpenStands o stream → (IsPartial o.waiting.items → IsFirstFault f o.waiting.items) → Refuses stream o.passed (Header f)
cut_off o stream f some st first =
    let p = st.passed in
    record {
      good = p.good;
      rest = o.waiting.items;
      entries = p.entries;
      splits = p.splits;
      place = p.place_is;
      admitted = p.admitted;
      fails = OfHeader f (first (waiting_partial o.waiting.items o.wanted st.waits)) (some_bytes o.waiting.items some) refl;
    }

pub end_fails : (o : Open) (stream : List ℕ) (error : Unread Fault) → length o.waiting.items ≡ 0 → OpenStands o stream
    → ((past : List Entry) → AdmissionStands o.admission past → AdmissionEnds (Err error) past) → Ends (Err (not_taken_at o.passed error)) stream
end_fails o stream (unread.Fault f) none st ends =
    let p = st.passed in
    record {
      good = p.good;
      rest = o.waiting.items;
      entries = p.entries;
      splits = p.splits;
      place = p.place_is;
      admitted = p.admitted;
      fails = AtEnd (no_bytes o.waiting.items none) (ends p.entries p.stands);
    }
end_fails o stream (unread.Memory e) none st ends = ends st.passed.entries st.passed.stands
