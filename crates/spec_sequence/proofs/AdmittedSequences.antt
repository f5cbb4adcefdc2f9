-- The OBUs of a sequence are admitted one by one, and its end has no fault.
use Rattle.std.proofs.Common.{◌≡◌, ℕ, Bool, true, false, cond, List, [], ◌∷◌, ◌++◌, refl, sym, ap, subst, ◌∙◌}
use Rattle.std.specs.Prelude.{None}
use Rattle.spec_obu.specs.declared.obu_type.ObuType.{ObuType}
use Rattle.spec_obu.specs.declared.obu_type.ObuType.TheVariants as obu_type
use Rattle.spec_obu.specs.Kinds.{obu_type_of, is_reserved}
use Rattle.spec_obu.specs.Header.{Head, is_copy}
use Rattle.spec_values.specs.Content.{Content, Context, Header, Codec, Element, Mix, Block, Frame, Nothing, Says}
use Rattle.spec_values.specs.Value.{ObuValue, Spells}
use Rattle.spec_rules.specs.Role.{Role, Ignored}
use Rattle.spec_rules.specs.Rules.{fault_before, end_fault}
use Rattle.spec_rules.specs.Admitted.{type_of_role, HasNoFault, IsAdmitted}
use Rattle.spec_rules.specs.Admitted as rules
use Rattle.spec_sequence.specs.ValueRole.{plain_role, role_of_nothing, role}
use Rattle.spec_sequence.specs.Parts.{roles_of}
use Rattle.spec_sequence.specs.Reading.{Entry, roles, IsAdmissible, AdmittedAfter, Reads}
use Rattle.spec_sequence.proofs.RedundantCopies.{early_plain}
use Rattle.spec_sequence.proofs.Roles.{roles_more, roles_of_values}

-- ---- the type of the role of an OBU

of_nothing : (t s : ObuType) → t ≡ s → is_reserved s ≡ true → type_of_role (role_of_nothing t) ≡ s
of_nothing t obu_type.Reserved e h = rw e refl
of_nothing t _ e h = absurd cc

of_delimiter : (t : ObuType) → t ≡ obu_type.TemporalDelimiter → type_of_role (role_of_nothing t) ≡ obu_type.TemporalDelimiter
of_delimiter t e = rw e refl

pub plain_type : (context : Context) (h : Head) (c : Content) (tail payload : List ℕ) (t : ObuType) → obu_type_of h.kind ≡ t → Says context h.kind t c tail payload → type_of_role (plain_role h c tail) ≡ t
plain_type context h (Header x) tail payload obu_type.SequenceHeader e says = refl
plain_type context h (Codec x) tail payload obu_type.CodecConfig e says = refl
plain_type context h (Element x) tail payload obu_type.AudioElement e says = refl
plain_type context h (Mix x) tail payload obu_type.MixPresentation e says = refl
plain_type context h (Block x) tail payload obu_type.ParameterBlock e says = refl
plain_type context h Nothing tail payload obu_type.TemporalDelimiter e says = of_delimiter (obu_type_of h.kind) e
plain_type context h (Frame x) tail payload obu_type.AudioFrame e says = refl
plain_type context h Nothing tail payload obu_type.Reserved e says = of_nothing (obu_type_of h.kind) obu_type.Reserved e refl
plain_type context h _ tail payload _ e says = absurd says

-- ---- one OBU

pub reserved_before : (l : List Role) → fault_before l obu_type.Reserved ≡ None
unfolding fault_before
reserved_before l = refl

pub plain_copy : (h : Head) → h.redundant ≡ false → is_copy h ≡ false
plain_copy h plain = rw plain refl

no_fault : (past : List Entry) (context : Context) (e : Entry) (piece : List ℕ) → Spells context e.value e.payload piece → IsAdmissible past e → HasNoFault (roles past) (role e.value)
no_fault past context e piece s a = record { early = one o.head.redundant refl; late = a.late } where
  o : ObuValue
  o = e.value

  one : (b : Bool) → o.head.redundant ≡ b → fault_before (roles past) (type_of_role (cond b Ignored (plain_role o.head o.content o.tail))) ≡ None
  one true is = reserved_before (roles past)
  one false is =
      ap (fault_before (roles past)) (plain_type context o.head o.content o.tail e.payload (obu_type_of o.head.kind) refl s.payload_is.says)
      ∙ sym (early_plain past o.head e.payload (plain_copy o.head is)) ∙ a.early

-- ---- all of them

admitted_after : (past : List Entry) (bytes : List ℕ) (es : List Entry) → AdmittedAfter past bytes es → rules.AdmittedAfter (roles past) (roles es)
admitted_after past bytes [] h = tt
admitted_after past bytes (e ∷ es) (piece, rest, parts, spells, passes, more) =
    (no_fault past _ e piece spells passes, subst (λ (l : List Role). rules.AdmittedAfter l (roles es)) (roles_more past e) (admitted_after (past ++ e ∷ []) rest es more))

admitted_all : (bytes : List ℕ) (es : List Entry) → AdmittedAfter [] bytes es → IsAdmitted (roles es)
unfolding IsAdmitted
admitted_all bytes es h = admitted_after [] bytes es h

roles_are : (bytes : List ℕ) (s : List ObuValue) (reads : Reads bytes s) → roles reads.entries ≡ roles_of s
roles_are bytes s reads = sym (roles_of_values reads.entries) ∙ ap roles_of reads.values_are

pub sequence_admitted : (bytes : List ℕ) (s : List ObuValue) → Reads bytes s → IsAdmitted (roles_of s)
sequence_admitted bytes s reads = subst IsAdmitted (roles_are bytes s reads) (admitted_all bytes reads.entries reads.admitted)

pub sequence_ends : (bytes : List ℕ) (s : List ObuValue) → Reads bytes s → end_fault (roles_of s) ≡ None
sequence_ends bytes s reads = subst (λ (l : List Role). end_fault l ≡ None) (roles_are bytes s reads) reads.whole
