-- A sequence of the Simple or the Base profile is one by the rules without the wide profile, and the other way round.
use Rattle.std.proofs.Common.{◌≡◌, ◌≤◌, ℕ, zero, suc, Bool, true, false, not, ◌&&◌, ◌||◌, eqb, cond, inl, inr, List, [], ◌∷◌, ◌++◌, refl, sym, ap, ap₂, subst, ◌∙◌, append_assoc, append-nil, arith}
use Rattle.std.specs.Prelude.{Option, Some, None}
use Rattle.std.specs.List.{list_any}
use Rattle.std.proofs.lemmas.Bool.{or_cases, cases_Bool}
use Rattle.spec_obu.specs.declared.obu_type.ObuType.{ObuType}
use Rattle.spec_obu.specs.declared.obu_type.ObuType.TheVariants.{SequenceHeader, ParameterBlock, TemporalDelimiter, AudioFrame}
use Rattle.spec_obu.specs.Kinds.{obu_type_of, is_descriptor}
use Rattle.spec_obu.specs.Header.{Head, is_copy}
use Rattle.spec_descriptors.specs.SequenceHeader.{SequenceHeaderFields}
use Rattle.spec_values.specs.declared.fault.Fault.{Fault}
use Rattle.spec_values.specs.declared.fault.Fault.TheVariants as fault
use Rattle.spec_values.specs.Content.{Content, Header, Nothing, by_length, Says, PayloadOf}
use Rattle.spec_values.specs.Value.{ObuValue, Spells}
use Rattle.spec_values.proofs.Payloads.{one_content}
use Rattle.spec_rules.specs.Role.{MixRole, Role}
use Rattle.spec_rules.specs.Role as role
use Rattle.spec_rules.specs.Descriptors.{profile_of, profiles, mixes, frame_length}
use Rattle.spec_rules.specs.Profile.{are_within, fits_channels, first_profile, fits, has_fit}
use Rattle.spec_rules.specs.Units.{is_data}
use Rattle.spec_rules.specs.Rules.{when, first_of, lacks_descriptors, start_tests, has_short_unit, fault_before, end_fault}
use Rattle.spec_rules.proofs.Basics.{none_of}
use Rattle.spec_rules.proofs.DescriptorLists.{profiles-append, profiles-push}
use Rattle.spec_rules.proofs.NoFault.{is_there, header_before}
use Rattle.spec_sequence.specs.ValueRole.{plain_role, role_in, role}
use Rattle.spec_sequence.specs.Reading.{Entry, values_of, roles, context_after, is_copied, is_repeated, early_fault, IsAdmissible, AdmittedAfter, Reads, Known, IsKnown, Keeps}
use Rattle.spec_sequence.specs.Parts.{roles_of}
use Rattle.spec_sequence.specs.Narrow.{HasNarrowProfile, are_narrowly_within, fits_narrow_channels, fits_narrowly, has_narrow_fit, narrow_start_tests, narrow_fault_before, narrow_end_fault, narrow_early_fault, NarrowlySpells, NarrowlyAdmittedAfter, NarrowlyReads}
use Rattle.spec_sequence.specs.Laws.{NarrowSame}
use Rattle.spec_sequence.proofs.Roles.{roles-append, roles_more, roles_of_values, nothing_of}
use Rattle.spec_sequence.proofs.RedundantCopies.{copied_parts, early_copy, early_plain}
use Rattle.spec_sequence.proofs.FixedContext.{payload_now, keeps-nil, keeps-push}
use Rattle.spec_sequence.proofs.NarrowHeaders.{IsNarrow, narrow_says, wide_says, header_type}

-- ---- the rules are the same where the profile is Simple or Base

abbrev IsSmall : List Role → Type 0
IsSmall l = first_profile (profiles l) ≤ 1

within_same : (p elements channels : ℕ) → p ≤ 1 → are_within p elements channels ≡ are_narrowly_within p elements channels
within_same zero elements channels small = refl
within_same (suc zero) elements channels small = refl
within_same (suc (suc p)) elements channels small = absurd (omega (arith, small))

channels_same : (p count : ℕ) (channels : Option ℕ) → p ≤ 1 → fits_channels p count channels ≡ fits_narrow_channels p count channels
channels_same p count None small = refl
channels_same p count (Some channels) small = within_same p count channels small

pub fits_same : (l : List Role) (m : MixRole) → IsSmall l → fits l m ≡ fits_narrowly l m
unfolding fits fits_narrowly
fits_same l m small = ap (λ (b : Bool). eqb m.sub_mixes 1 && b) (channels_same (first_profile (profiles l)) _ _ small)

any_same : {A : Type 0} (p q : A → Bool) (xs : List A) → ((x : A) → p x ≡ q x) → list_any p xs ≡ list_any q xs
any_same p q [] same = refl
any_same p q (x ∷ xs) same = ap₂ (λ (a b : Bool). a || b) (same x) (any_same p q xs same)

has_fit_same : (l : List Role) → IsSmall l → has_fit l ≡ has_narrow_fit l
unfolding has_fit has_narrow_fit
has_fit_same l small = any_same (fits l) (fits_narrowly l) (mixes l) (λ m. fits_same l m small)

start_same : (l : List Role) → IsSmall l → start_tests l ≡ narrow_start_tests l
start_same l small =
    ap (λ (b : Bool). when (not (list_any is_data l) && lacks_descriptors l) fault.Incomplete ∷ when (not (list_any is_data l) && not b) fault.NoMixFits ∷ []) (has_fit_same l small)

before_same : (l : List Role) (t : ObuType) → IsSmall l → fault_before l t ≡ narrow_fault_before l t
unfolding fault_before narrow_fault_before
before_same l ParameterBlock small = ap first_of (start_same l small)
before_same l TemporalDelimiter small = ap first_of (start_same l small)
before_same l AudioFrame small = ap first_of (start_same l small)
before_same l _ small = refl

end_same : (l : List Role) → IsSmall l → end_fault l ≡ narrow_end_fault l
unfolding end_fault narrow_end_fault
end_same l small = ap (λ (rows : List (Option Fault)). first_of (rows ++ when (has_short_unit l) fault.UnitShort ∷ [])) (start_same l small)

early_same : (past : List Entry) (h : Head) (payload : List ℕ) → IsSmall (roles past) → early_fault past h payload ≡ narrow_early_fault past h payload
unfolding early_fault
early_same past h payload small = ap (λ (f : Option Fault). cond (is_copy h) (when (not (is_repeated past h payload)) fault.Redundant) f) (before_same (roles past) (obu_type_of h.kind) small)

-- ---- the first profile of a list that goes on

first_prefix : (xs ys : List ℕ) → first_profile (xs ++ ys) ≤ 1 → first_profile xs ≤ 1
first_prefix [] ys small = omega arith
first_prefix (x ∷ xs) ys small = small

first_joined : (xs ys : List ℕ) → first_profile xs ≤ 1 → first_profile ys ≤ 1 → first_profile (xs ++ ys) ≤ 1
first_joined [] ys a b = b
first_joined (x ∷ xs) ys a b = a

one_profile : (p : ℕ) (ps : List ℕ) → profiles (role.SequenceHeader p ∷ []) ++ ps ≡ p ∷ ps
unfolding profiles
one_profile p ps = refl

joined_profiles : (past es : List Entry) → profiles (roles (past ++ es)) ≡ profiles (roles past) ++ profiles (roles es)
joined_profiles past es = ap profiles (roles-append past es) ∙ profiles-append (roles past) (roles es)

small_before : (past es : List Entry) → IsSmall (roles (past ++ es)) → IsSmall (roles past)
small_before past es small = first_prefix (profiles (roles past)) (profiles (roles es)) (subst (λ (ps : List ℕ). first_profile ps ≤ 1) (joined_profiles past es) small)

plain_small : (h : Head) (c : Content) (tail : List ℕ) → IsNarrow c → first_profile (profile_of (plain_role h c tail)) ≤ 1
plain_small h (Header x) tail narrow = narrow
plain_small h Nothing tail narrow = rw (nothing_of profile_of refl refl (obu_type_of h.kind)) (omega arith)
plain_small h _ tail narrow = omega arith

role_small : (o : ObuValue) → IsNarrow o.content → first_profile (profile_of (role o)) ≤ 1
role_small o narrow = one o.head.redundant where
  one : (redundant : Bool) → first_profile (profile_of (cond redundant role.Ignored (plain_role o.head o.content o.tail))) ≤ 1
  one true = omega arith
  one false = plain_small o.head o.content o.tail narrow

-- ---- a sequence header of a sequence whose profile is Simple or Base

abbrev AreNarrow : List Entry → Type 0
AreNarrow [] = Unit {0}
AreNarrow (e ∷ es) = IsNarrow e.value.content × AreNarrow es

narrow-push : (past : List Entry) (e : Entry) → AreNarrow past → IsNarrow e.value.content → AreNarrow (past ++ e ∷ [])
narrow-push [] e all narrow = (narrow, tt)
narrow-push (x ∷ xs) e all narrow = (all.0, narrow-push xs e all.1 narrow)

-- what a copy repeats says the same
copied_narrow : (n : ℕ) (h : Head) (c : Content) (tail payload : List ℕ) (e : Entry) → IsKnown n e → IsNarrow e.value.content → is_descriptor (obu_type_of h.kind) ≡ true
    → PayloadOf (by_length n) h.kind c tail payload → is_copied h payload e ≡ true → IsNarrow c
copied_narrow n h c tail payload e known narrow descriptor p copied =
    let parts = copied_parts h payload e copied in
    let kinds : e.value.head.kind ≡ h.kind = parts.1 in
    let old = known parts.0 (subst (λ (k : ℕ). is_descriptor (obu_type_of k) ≡ true) (sym kinds) descriptor) in
    let was : PayloadOf (by_length n) h.kind e.value.content e.value.tail payload =
    subst (λ (k : ℕ). PayloadOf (by_length n) k e.value.content e.value.tail payload) kinds (subst (λ (x : List ℕ). PayloadOf (by_length n) e.value.head.kind e.value.content e.value.tail x) parts.2 old) in
    subst IsNarrow (one_content (by_length n) h.kind payload e.value.tail tail e.value.content c was p).0 narrow

repeated_narrow : (n : ℕ) (h : Head) (c : Content) (tail payload : List ℕ) (past : List Entry) → Known n past → AreNarrow past → is_descriptor (obu_type_of h.kind) ≡ true
    → PayloadOf (by_length n) h.kind c tail payload → is_repeated past h payload ≡ true → IsNarrow c
repeated_narrow n h c tail payload [] known narrow descriptor p e = absurd cc
repeated_narrow n h c tail payload (x ∷ xs) known narrow descriptor p e = elim (or_cases (is_copied h payload x) (is_repeated xs h payload) e) [
  | inl here ↦ copied_narrow n h c tail payload x known.0 narrow.0 descriptor p here
  | inr there ↦ repeated_narrow n h c tail payload xs known.1 narrow.1 descriptor p there
]

copy_narrow : (past : List Entry) (h : Head) (c : Content) (tail payload : List ℕ) → Keeps past → AreNarrow past → obu_type_of h.kind ≡ SequenceHeader → h.redundant ≡ true
    → PayloadOf (context_after past) h.kind c tail payload → early_fault past h payload ≡ None → IsNarrow c
copy_narrow past h c tail payload keeps narrow type redundant p none =
    let copy : is_copy h ≡ true = rw (redundant, type) refl in
    let descriptor : is_descriptor (obu_type_of h.kind) ≡ true = rw type refl in
    let there = is_there (is_repeated past h payload) fault.Redundant (sym (early_copy past h payload copy) ∙ none) in
    repeated_narrow (frame_length (roles past)) h c tail payload past keeps.known narrow descriptor (payload_now past h.kind c tail payload descriptor p) there

header_role : (h : Head) (c : Content) (tail : List ℕ) (x : SequenceHeaderFields) → h.redundant ≡ false → c ≡ Header x → role_in h c tail ≡ role.SequenceHeader x.primary_profile
header_role h c tail x plain is = rw (plain, is) refl

-- a plain one is the first, so its profile is that of the sequence
plain_narrow : (past es : List Entry) (e : Entry) (x : SequenceHeaderFields) → IsSmall (roles (past ++ e ∷ es)) → obu_type_of e.value.head.kind ≡ SequenceHeader → e.value.head.redundant ≡ false
    → e.value.content ≡ Header x → early_fault past e.value.head e.payload ≡ None → x.primary_profile ≤ 1
plain_narrow past es e x small type plain is none =
    let h = e.value.head in
    let no_copy : is_copy h ≡ false = rw plain refl in
    let before : fault_before (roles past) SequenceHeader ≡ None = ap (fault_before (roles past)) (sym type) ∙ sym (early_plain past h e.payload no_copy) ∙ none in
    let first : profiles (roles past) ≡ [] = none_of (profiles (roles past)) (header_before (roles past) before) in
    let role_is : role e.value ≡ role.SequenceHeader x.primary_profile = header_role h e.value.content e.value.tail x plain is in
    let all : profiles (roles (past ++ e ∷ es)) ≡ x.primary_profile ∷ profiles (roles es) =
    joined_profiles past (e ∷ es) ∙ ap (λ (ps : List ℕ). ps ++ profiles (roles (e ∷ es))) first ∙ joined_profiles (e ∷ []) es ∙ ap (λ (r : Role). profiles (r ∷ []) ++ profiles (roles es)) role_is ∙ one_profile x.primary_profile (profiles (roles es)) in
    subst (λ (ps : List ℕ). first_profile ps ≤ 1) all small

entry_narrow : (past es : List Entry) (e : Entry) (piece : List ℕ) → Keeps past → AreNarrow past → IsSmall (roles (past ++ e ∷ es)) → Spells (context_after past) e.value e.payload piece → IsAdmissible past e → IsNarrow e.value.content
entry_narrow past es e piece keeps narrow small s a = one e.value.content refl where
  one : (c : Content) → e.value.content ≡ c → IsNarrow c
  one (Header x) is =
      let type : obu_type_of e.value.head.kind ≡ SequenceHeader =
      header_type (context_after past) e.value.head.kind (obu_type_of e.value.head.kind) (Header x) e.value.tail e.payload (subst (λ (c : Content). Says (context_after past) e.value.head.kind (obu_type_of e.value.head.kind) c e.value.tail e.payload) is s.payload_is.says) tt in
      elim (cases_Bool e.value.head.redundant) [
        | inl redundant ↦ subst IsNarrow is (copy_narrow past e.value.head e.value.content e.value.tail e.payload keeps narrow type redundant s.payload_is a.early)
        | inr plain ↦ plain_narrow past es e x small type plain is a.early
      ]
  one _ is = tt

-- ---- sequences

to_narrow : (past : List Entry) (bytes : List ℕ) (es : List Entry) → Keeps past → AreNarrow past → IsSmall (roles (past ++ es)) → AdmittedAfter past bytes es → NarrowlyAdmittedAfter past bytes es
to_narrow past bytes [] keeps narrow small h = h
to_narrow past bytes (e ∷ es) keeps narrow small h =
    let s : Spells (context_after past) e.value e.payload h.0 = h.3 in
    let a : IsAdmissible past e = h.4 in
    let n : IsNarrow e.value.content = entry_narrow past es e h.0 keeps narrow small s a in
    let spells : NarrowlySpells (context_after past) e.value e.payload h.0 = record {
      header = s.header;
      says = narrow_says (context_after past) e.value.head.kind (obu_type_of e.value.head.kind) e.value.content e.value.tail e.payload n s.payload_is.says;
      are_bytes = s.payload_is.bytes;
      tail_is = s.payload_is.tail_is;
    } in (
      h.0,
      h.1,
      h.2,
      spells,
      sym (early_same past e.value.head e.payload (small_before past (e ∷ es) small)) ∙ a.early,
      a.late,
      to_narrow (past ++ e ∷ []) h.1 es (keeps-push past e keeps s.payload_is a) (narrow-push past e narrow n) (subst (λ (l : List Entry). IsSmall (roles l)) (sym (append_assoc past (e ∷ []) es)) small) h.5,
    )

small-push : (past : List Entry) (e : Entry) → IsSmall (roles past) → IsNarrow e.value.content → IsSmall (roles (past ++ e ∷ []))
small-push past e small narrow =
    let all : profiles (roles (past ++ e ∷ [])) ≡ profiles (roles past) ++ profile_of (role e.value) = ap profiles (roles_more past e) ∙ profiles-push (roles past) (role e.value) in
    subst (λ (ps : List ℕ). first_profile ps ≤ 1) (sym all) (first_joined (profiles (roles past)) (profile_of (role e.value)) small (role_small e.value narrow))

from_narrow : (past : List Entry) (bytes : List ℕ) (es : List Entry) → IsSmall (roles past) → NarrowlyAdmittedAfter past bytes es → AdmittedAfter past bytes es × IsSmall (roles (past ++ es))
from_narrow past bytes [] small h = (h, subst (λ (l : List Entry). IsSmall (roles l)) (sym (append-nil past)) small)
from_narrow past bytes (e ∷ es) small h =
    let s : NarrowlySpells (context_after past) e.value e.payload h.0 = h.3 in
    let w = wide_says (context_after past) e.value.head.kind (obu_type_of e.value.head.kind) e.value.content e.value.tail e.payload s.says in
    let spells : Spells (context_after past) e.value e.payload h.0 = record { header = s.header; payload_is = record { says = w.0; bytes = s.are_bytes; tail_is = s.tail_is } } in
    let a : IsAdmissible past e = record { early = early_same past e.value.head e.payload small ∙ h.4; late = h.5 } in
    let others = from_narrow (past ++ e ∷ []) h.1 es (small-push past e small w.1) h.6 in
    ((h.0, h.1, h.2, spells, a, others.0), subst (λ (l : List Entry). IsSmall (roles l)) (append_assoc past (e ∷ []) es) others.1)

of_values : (entries : List Entry) (s : List ObuValue) → values_of entries ≡ s → roles entries ≡ roles_of s
of_values entries s is = sym (roles_of_values entries) ∙ ap roles_of is

none_small : IsSmall (roles [])
unfolding profiles
none_small = omega arith

pub narrow_same : NarrowSame
narrow_same bytes s = (
  λ (n : NarrowlyReads bytes s).
      let f = from_narrow [] bytes n.entries none_small n.admitted in (
        record { entries = n.entries; values_are = n.values_are; admitted = f.0; whole = end_same (roles n.entries) f.1 ∙ n.whole },
        subst IsSmall (of_values n.entries s n.values_are) f.1,
      ),
  λ (p : Reads bytes s × HasNarrowProfile s).
      let r = p.0 in
      let small : IsSmall (roles r.entries) = subst IsSmall (sym (of_values r.entries s r.values_are)) p.1 in
      record { entries = r.entries; values_are = r.values_are; admitted = to_narrow [] bytes r.entries keeps-nil tt small r.admitted; whole = sym (end_same (roles r.entries) small) ∙ r.whole },
)
