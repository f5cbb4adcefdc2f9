-- Bytes are not both read and refused; they are read as one sequence, and refused at one place for one fault.
use Rattle.std.proofs.Common.{◌≡◌, ℕ, List, [], ◌∷◌, ◌++◌, length, refl, sym, ap, subst, ◌∙◌, arith, append_assoc, append-nil, length-append}
use Rattle.std.specs.Prelude.{None}
use Rattle.spec_values.specs.declared.fault.Fault.{Fault}
use Rattle.spec_values.specs.Value.{ObuValue}
use Rattle.spec_rules.specs.Rules.{end_fault}
use Rattle.spec_sequence.specs.Reading.{Entry, values_of, roles, context_after, AdmittedAfter, FailsAt, AtEnd, OfHeader, OfObu}
use Rattle.spec_sequence.specs.Laws.{ReadsIsNotRefused, OneEntries, OneReading, OneRefusal}
use Rattle.spec_values.proofs.Obus.{same_first, not_empty}
use Rattle.spec_sequence.proofs.OneFault.{apart, no_fault_at, one_fault_at}

abbrev entry : ObuValue → List ℕ → Entry
entry value payload = record { value = value; payload = payload }

same_entry : (e f : Entry) → e.value ≡ f.value → e.payload ≡ f.payload → e ≡ f
same_entry e f p q = ap (λ (x : ObuValue). entry x e.payload) p ∙ ap (entry f.value) q

-- the bytes of nothing, and what follows
behind : (good rest : List ℕ) → good ≡ [] → good ++ rest ≡ rest
behind good rest e = ap (λ (b : List ℕ). b ++ rest) e

ahead : (good piece more rest : List ℕ) → good ≡ piece ++ more → good ++ rest ≡ piece ++ (more ++ rest)
ahead good piece more rest e = ap (λ (b : List ℕ). b ++ rest) e ∙ append_assoc piece more rest

here : (past : List Entry) (rest : List ℕ) (f : Fault) → FailsAt (past ++ []) rest f → FailsAt past rest f
here past rest f h = subst (λ (p : List Entry). FailsAt p rest f) (append-nil past) h

later : (past : List Entry) (e : Entry) (es : List Entry) (rest : List ℕ) (f : Fault) → FailsAt (past ++ (e ∷ es)) rest f → FailsAt ((past ++ e ∷ []) ++ es) rest f
later past e es rest f h = subst (λ (p : List Entry). FailsAt p rest f) (sym (append_assoc past (e ∷ []) es)) h

-- ---- read and refused

no_fault_at_end : (past : List Entry) (f : Fault) → end_fault (roles past) ≡ None → FailsAt past [] f → ⊥
no_fault_at_end past f none (AtEnd empty end) = apart (end_fault (roles past)) f none end
no_fault_at_end past f none (OfHeader h first some is) = some refl
no_fault_at_end past f none (OfObu h payload piece more split header has) = not_empty h payload piece more header split

clash : (past : List Entry) (bytes good rest : List ℕ) (es fs : List Entry) (f : Fault) → AdmittedAfter past bytes es → end_fault (roles (past ++ es)) ≡ None → bytes ≡ good ++ rest → AdmittedAfter past good fs → FailsAt (past ++ fs) rest f → ⊥
clash past bytes good rest [] [] f h whole is g fails =
    let empty : rest ≡ [] = sym (behind good rest g) ∙ sym is ∙ h in
    let none : end_fault (roles past) ≡ None = ap (λ (p : List Entry). end_fault (roles p)) (sym (append-nil past)) ∙ whole in
    no_fault_at_end past f none (subst (λ (b : List ℕ). FailsAt past b f) empty (here past rest f fails))
clash past bytes good rest (e ∷ es) [] f h whole is g fails =
    no_fault_at past e h.0 h.1 rest f h.3 h.4 (sym (behind good rest g) ∙ sym is ∙ h.2) (here past rest f fails)
clash past bytes good rest [] (x ∷ xs) f h whole is g fails =
    not_empty x.value.head x.payload g.0 (g.1 ++ rest) g.3.header (sym h ∙ is ∙ ahead good g.0 g.1 rest g.2)
clash past bytes good rest (e ∷ es) (x ∷ xs) f h whole is g fails =
    let same = same_first (context_after past) e.value x.value e.payload x.payload h.0 g.0 h.1 (g.1 ++ rest) h.3 g.3 (sym h.2 ∙ is ∙ ahead good g.0 g.1 rest g.2) in
    let one : x ≡ e = same_entry x e (sym same.values) (sym same.payloads) in
    let admitted : AdmittedAfter (past ++ e ∷ []) g.1 xs = subst (λ (y : Entry). AdmittedAfter (past ++ y ∷ []) g.1 xs) one g.5 in
    let fails_later : FailsAt ((past ++ e ∷ []) ++ xs) rest f = subst (λ (y : Entry). FailsAt ((past ++ y ∷ []) ++ xs) rest f) one (later past x xs rest f fails) in
    let none : end_fault (roles ((past ++ e ∷ []) ++ es)) ≡ None = ap (λ (p : List Entry). end_fault (roles p)) (append_assoc past (e ∷ []) es) ∙ whole in
    clash (past ++ e ∷ []) h.1 g.1 rest es xs f h.5 none same.rests admitted fails_later

pub reads_is_not_refused : ReadsIsNotRefused
reads_is_not_refused bytes s at f r q = clash [] bytes q.good q.rest r.entries q.entries f r.admitted r.whole q.splits q.admitted q.fails

-- ---- one sequence

one_list : (past : List Entry) (bytes : List ℕ) (s t : List Entry) → AdmittedAfter past bytes s → AdmittedAfter past bytes t → s ≡ t
one_list past bytes [] [] h g = refl
one_list past bytes [] (q ∷ qs) h g = absurd (not_empty q.value.head q.payload g.0 g.1 g.3.header (sym h ∙ g.2))
one_list past bytes (o ∷ os) [] h g = absurd (not_empty o.value.head o.payload h.0 h.1 h.3.header (sym g ∙ h.2))
one_list past bytes (o ∷ os) (q ∷ qs) h g =
    let f = same_first (context_after past) o.value q.value o.payload q.payload h.0 g.0 h.1 g.1 h.3 g.3 (sym h.2 ∙ g.2) in
    let first : o ≡ q = same_entry o q f.values f.payloads in
    let moved : AdmittedAfter (past ++ o ∷ []) h.1 qs =
    subst (λ (e : Entry). AdmittedAfter (past ++ e ∷ []) h.1 qs) (sym first) (subst (λ (b : List ℕ). AdmittedAfter (past ++ q ∷ []) b qs) (sym f.rests) g.5) in
    let others : os ≡ qs = one_list (past ++ o ∷ []) h.1 os qs h.5 moved in
    ap (λ (e : Entry). e ∷ os) first ∙ ap (λ (es : List Entry). q ∷ es) others

pub one_entries : OneEntries
one_entries bytes s t h g = one_list [] bytes s t h g

pub one_reading : OneReading
one_reading bytes s t h g = sym h.values_are ∙ ap values_of (one_list [] bytes h.entries g.entries h.admitted g.admitted) ∙ g.values_are

-- ---- one refusal

one_place : (past : List Entry) (good rest good' rest' : List ℕ) (es fs : List Entry) (f f' : Fault) → good ++ rest ≡ good' ++ rest' → AdmittedAfter past good es → FailsAt (past ++ es) rest f
    → AdmittedAfter past good' fs → FailsAt (past ++ fs) rest' f' → (length good ≡ length good') × (f ≡ f')
one_place past good rest good' rest' [] [] f f' is h fails g fails' =
    let rests : rest' ≡ rest = sym (behind good' rest' g) ∙ sym is ∙ behind good rest h in
    (ap length (h ∙ sym g), one_fault_at (past ++ []) rest f f' fails (subst (λ (b : List ℕ). FailsAt (past ++ []) b f') rests fails'))
one_place past good rest good' rest' (e ∷ es) [] f f' is h fails g fails' =
    absurd (no_fault_at past e h.0 (h.1 ++ rest) rest' f' h.3 h.4 (sym (behind good' rest' g) ∙ sym is ∙ ahead good h.0 h.1 rest h.2) (here past rest' f' fails'))
one_place past good rest good' rest' [] (x ∷ xs) f f' is h fails g fails' =
    absurd (no_fault_at past x g.0 (g.1 ++ rest') rest f g.3 g.4 (sym (behind good rest h) ∙ is ∙ ahead good' g.0 g.1 rest' g.2) (here past rest f fails))
one_place past good rest good' rest' (e ∷ es) (x ∷ xs) f f' is h fails g fails' =
    let same = same_first (context_after past) e.value x.value e.payload x.payload h.0 g.0 (h.1 ++ rest) (g.1 ++ rest') h.3 g.3 (sym (ahead good h.0 h.1 rest h.2) ∙ is ∙ ahead good' g.0 g.1 rest' g.2) in
    let one : x ≡ e = same_entry x e (sym same.values) (sym same.payloads) in
    let admitted : AdmittedAfter (past ++ e ∷ []) g.1 xs = subst (λ (y : Entry). AdmittedAfter (past ++ y ∷ []) g.1 xs) one g.5 in
    let fails_later : FailsAt ((past ++ e ∷ []) ++ xs) rest' f' = subst (λ (y : Entry). FailsAt ((past ++ y ∷ []) ++ xs) rest' f') one (later past x xs rest' f' fails') in
    let r = one_place (past ++ e ∷ []) h.1 rest g.1 rest' es xs f f' same.rests h.5 (later past e es rest f fails) admitted fails_later in
    let total : length (good ++ rest) ≡ length (good' ++ rest') = ap length is in
    let left : length (h.1 ++ rest) ≡ length (g.1 ++ rest') = ap length same.rests in
    (omega (arith, total, left, r.0, length-append good rest, length-append good' rest', length-append h.1 rest, length-append g.1 rest'), r.1)

pub one_refusal : OneRefusal
one_refusal bytes at place f g r q =
    let p = one_place [] r.good r.rest q.good q.rest r.entries q.entries f g (sym r.splits ∙ q.splits) r.admitted r.fails q.admitted q.fails in
    (r.place ∙ p.0 ∙ sym q.place, p.1)
