-- What stands at the front of bytes is an OBU without a fault, or has one fault, and not both.
use Rattle.std.proofs.Common.{◌≡◌, ℕ, ◌<◌, List, [], ◌∷◌, ◌++◌, length, refl, sym, ap, subst, ◌∙◌, arith}
use Rattle.std.specs.Prelude.{Option, Some, None}
use Rattle.std.proofs.lemmas.Option.{same_Some}
use Rattle.spec_obu.specs.declared.HeaderFault.{HeaderFault}
use Rattle.spec_obu.specs.Header.{Head}
use Rattle.spec_obu.proofs.FaultLaws.{one_first}
use Rattle.spec_obu.proofs.OneHeader.{same_front, no_header}
use Rattle.spec_values.specs.declared.fault.Fault.{Fault}
use Rattle.spec_values.specs.declared.fault.Fault.TheVariants as fault
use Rattle.spec_values.specs.Content.{Content, PayloadOf}
use Rattle.spec_values.specs.Value.{Spells}
use Rattle.spec_sequence.specs.ValueRole.{role}
use Rattle.spec_rules.specs.Rules.{fault_after, end_fault}
use Rattle.spec_sequence.specs.Reading.{Entry, roles, context_after, early_fault, IsAdmissible, HasFault, Early, OfPayload, Late, FailsAt, AtEnd, OfHeader, OfObu}
use Rattle.spec_values.proofs.Payloads.{one_content, one_fault, not_both}
use Rattle.spec_values.proofs.Obus.{made, not_empty}

pub apart : (o : Option Fault) (f : Fault) → o ≡ None → o ≡ Some f → ⊥
apart None f e g = cc
apart (Some x) f e g = cc

same_some : (o : Option Fault) (f g : Fault) → o ≡ Some f → o ≡ Some g → f ≡ g
same_some o f g h k = same_Some f g (sym h ∙ k)

begun : (b : List ℕ) → (b ≡ [] → ⊥) → 0 < length b
begun [] e = absurd (e refl)
begun (x ∷ xs) e = omega arith

-- the test of what one payload says
same_late : (past : List Entry) (h : Head) (payload t u : List ℕ) (c d : Content) → PayloadOf (context_after past) h.kind c t payload → PayloadOf (context_after past) h.kind d u payload
    → fault_after (roles past) (role (made h c t)) ≡ fault_after (roles past) (role (made h d u))
same_late past h payload t u c d p q =
    let one = one_content (context_after past) h.kind payload t u c d p q in
    ap (λ (x : Content). fault_after (roles past) (role (made h x t))) one.0 ∙ ap (λ (x : List ℕ). fault_after (roles past) (role (made h d x))) one.1

-- ---- of one OBU

pub no_obu_fault : (past : List Entry) (e : Entry) (f : Fault) → PayloadOf (context_after past) e.value.head.kind e.value.content e.value.tail e.payload → IsAdmissible past e → HasFault past e.value.head e.payload f → ⊥
no_obu_fault past e f p a (Early early) = apart (early_fault past e.value.head e.payload) f a.early early
no_obu_fault past e f p a (OfPayload none has) = not_both (context_after past) e.value.head.kind e.payload e.value.tail e.value.content f p has
no_obu_fault past e f p a (Late none content tail is late) =
    apart (fault_after (roles past) (role e.value)) f a.late (same_late past e.value.head e.payload e.value.tail tail e.value.content content p is ∙ late)

pub one_obu_fault : (past : List Entry) (h : Head) (payload : List ℕ) (f g : Fault) → HasFault past h payload f → HasFault past h payload g → f ≡ g
one_obu_fault past h payload f g (Early a) (Early b) = same_some (early_fault past h payload) f g a b
one_obu_fault past h payload f g (Early a) (OfPayload none has) = absurd (apart (early_fault past h payload) f none a)
one_obu_fault past h payload f g (Early a) (Late none content tail is late) = absurd (apart (early_fault past h payload) f none a)
one_obu_fault past h payload f g (OfPayload none has) (Early b) = absurd (apart (early_fault past h payload) g none b)
one_obu_fault past h payload f g (OfPayload none has) (OfPayload none' has') = one_fault (context_after past) h.kind payload f g has has'
one_obu_fault past h payload f g (OfPayload none has) (Late none' content tail is late) = absurd (not_both (context_after past) h.kind payload tail content f is has)
one_obu_fault past h payload f g (Late none content tail is late) (Early b) = absurd (apart (early_fault past h payload) g none b)
one_obu_fault past h payload f g (Late none content tail is late) (OfPayload none' has) = absurd (not_both (context_after past) h.kind payload tail content g is has)
one_obu_fault past h payload f g (Late none content tail is late) (Late none' content' tail' is' late') =
    same_some (fault_after (roles past) (role (made h content tail))) f g late (same_late past h payload tail tail' content content' is is' ∙ late')

-- ---- at the front of bytes

-- what stands there has a fault, where it is an OBU
moved_fault : (past : List Entry) (h k : Head) (payload other : List ℕ) (f : Fault) → h ≡ k → payload ≡ other → HasFault past k other f → HasFault past h payload f
moved_fault past h k payload other f e p has = subst (λ (x : Head). HasFault past x payload f) (sym e) (subst (λ (x : List ℕ). HasFault past k x f) (sym p) has)

pub no_fault_at : (past : List Entry) (e : Entry) (piece rest bytes : List ℕ) (f : Fault) → Spells (context_after past) e.value e.payload piece → IsAdmissible past e → bytes ≡ piece ++ rest → FailsAt past bytes f → ⊥
no_fault_at past e piece rest bytes f s a is (AtEnd empty end) = not_empty e.value.head e.payload piece rest s.header (sym empty ∙ is)
no_fault_at past e piece rest bytes f s a is (OfHeader g first some same) = no_header e.value.head e.payload piece rest bytes g s.header first (begun bytes some) (sym is)
no_fault_at past e piece rest bytes f s a is (OfObu k other part more split header has) =
    let same = same_front e.value.head k e.payload other piece part rest more s.header header (sym is ∙ split) in
    no_obu_fault past e f s.payload_is a (moved_fault past e.value.head k e.payload other f same.head same.payload has)

pub one_fault_at : (past : List Entry) (rest : List ℕ) (f g : Fault) → FailsAt past rest f → FailsAt past rest g → f ≡ g
one_fault_at past rest f g (AtEnd empty end) (AtEnd empty' end') = same_some (end_fault (roles past)) f g end end'
one_fault_at past rest f g (AtEnd empty end) (OfHeader h first some is) = absurd (some empty)
one_fault_at past rest f g (AtEnd empty end) (OfObu h payload piece more split header has) = absurd (not_empty h payload piece more header (sym empty ∙ split))
one_fault_at past rest f g (OfHeader h first some is) (AtEnd empty end) = absurd (some empty)
one_fault_at past rest f g (OfHeader h first some is) (OfHeader k first' some' is') = is ∙ ap (λ (x : HeaderFault). fault.Header x) (one_first rest h k first first') ∙ sym is'
one_fault_at past rest f g (OfHeader h first some is) (OfObu k payload piece more split header has) = absurd (no_header k payload piece more rest h header first (begun rest some) (sym split))
one_fault_at past rest f g (OfObu h payload piece more split header has) (AtEnd empty end) = absurd (not_empty h payload piece more header (sym empty ∙ split))
one_fault_at past rest f g (OfObu h payload piece more split header has) (OfHeader k first some is) = absurd (no_header h payload piece more rest k header first (begun rest some) (sym split))
one_fault_at past rest f g (OfObu h payload piece more split header has) (OfObu k other part after split' header' has') =
    let same = same_front h k payload other piece part more after header header' (sym split ∙ split') in
    one_obu_fault past h payload f g has (moved_fault past h k payload other g same.head same.payload has')
