-- A redundant copy of an OBU of a list.
use Rattle.std.proofs.Common.{◌≡◌, ℕ, true, false, not, inl, inr, List, [], ◌∷◌, refl, sym, ap, subst, ◌∙◌}
use Rattle.std.specs.Prelude.{None, Some}
use Rattle.std.proofs.lemmas.Bool.{and_parts, or_cases}
use Rattle.spec_obu.specs.Header.{Head, Header, is_copy}
use Rattle.spec_obu.specs.Kinds.{obu_type_of, is_descriptor, is_reserved}
use Rattle.spec_values.specs.declared.fault.Fault.TheVariants as fault
use Rattle.spec_values.specs.Content.{Content, by_length, PayloadOf}
use Rattle.spec_values.specs.Value.{ObuValue}
use Rattle.spec_values.proofs.Contents.{descriptor_elsewhere}
use Rattle.spec_rules.specs.Role.{Role, Ignored}
use Rattle.spec_rules.specs.Descriptors.{frame_length, context_of}
use Rattle.spec_rules.specs.Rules.{fault_after}
use Rattle.spec_sequence.specs.ValueRole.{role}
use Rattle.spec_sequence.specs.Reading.{Entry, roles, context_after, is_copied, is_repeated, early_fault, Known, Keeps}
use Rattle.spec_sequence.proofs.RedundantCopies.{plain_of, copy_kind, copied_parts, early_copy}
use Rattle.spec_sequence.proofs.Roles.{redundant_role}
use Rattle.obu_header.specs.declared.view.ObuView.{ObuView}
use Rattle.obu_header.specs.View.{head_of}
use Rattle.iamf_admission.specs.Numbers.{number_after}
use Rattle.iamf_admission.specs.Taking.{IsTaken}

-- ---- what may be a copy

pub copy_descriptor : (h : Head) (payload piece : List ℕ) → Header h payload piece → is_copy h ≡ true → is_descriptor (obu_type_of h.kind) ≡ true
copy_descriptor h payload piece header copy = copy_kind h header.allowed copy

pub copy_redundant : (h : Head) → is_copy h ≡ true → h.redundant ≡ true
copy_redundant h copy = (and_parts h.redundant (not (is_reserved (obu_type_of h.kind))) copy).0

pub descriptor_plain : (h : Head) → is_copy h ≡ false → is_descriptor (obu_type_of h.kind) ≡ true → h.redundant ≡ false
descriptor_plain h copy descriptor = plain_of h (obu_type_of h.kind) copy refl (λ r. absurd (let x = sym (ap is_descriptor r) ∙ descriptor in cc))

-- ---- its payload reads as that of the OBU that it repeats

record Original (n obu_type : ℕ) (payload : List ℕ) : Type 0 where
  pub content : Content
  pub tail : List ℕ
  pub is : PayloadOf (by_length n) obu_type content tail payload

original : (n : ℕ) (past : List Entry) (h : Head) (payload : List ℕ) → Known n past → is_descriptor (obu_type_of h.kind) ≡ true → is_repeated past h payload ≡ true → Original n h.kind payload
original n [] h payload known descriptor same = absurd cc
original n (x ∷ xs) h payload known descriptor same = elim (or_cases (is_copied h payload x) (is_repeated xs h payload) same) [
  | inl here ↦
      let parts = copied_parts h payload x here in
      let old = known.0 parts.0 (subst (λ (k : ℕ). is_descriptor (obu_type_of k) ≡ true) (sym parts.1) descriptor) in
      record {
        content = x.value.content;
        tail = x.value.tail;
        is = subst (λ (k : ℕ). PayloadOf (by_length n) k x.value.content x.value.tail payload) parts.1 (subst (λ (p : List ℕ). PayloadOf (by_length n) x.value.head.kind x.value.content x.value.tail p) parts.2 old);
      }
  | inr there ↦ original n xs h payload known.1 descriptor there
]

payload_then : (past : List Entry) (obu_type : ℕ) (c : Content) (tail payload : List ℕ) → is_descriptor (obu_type_of obu_type) ≡ true → PayloadOf (by_length (frame_length (roles past))) obu_type c tail payload
    → PayloadOf (context_after past) obu_type c tail payload
unfolding context_of
payload_then past obu_type c tail payload e h = record {
  says = descriptor_elsewhere (by_length (frame_length (roles past))) (context_of (roles past)) obu_type (obu_type_of obu_type) c tail payload e (λ _. refl) h.says;
  bytes = h.bytes;
  tail_is = h.tail_is;
}

-- ---- the copy is admitted

pub ignored_passes : (l : List Role) → fault_after l Ignored ≡ None
unfolding fault_after
ignored_passes l = refl

late_copy : (l : List Role) (o : ObuValue) → o.head.redundant ≡ true → fault_after l (role o) ≡ None
late_copy l o redundant = ap (fault_after l) (redundant_role o redundant) ∙ ignored_passes l

number_copy : (l : List Role) (o : ObuValue) → o.head.redundant ≡ true → None ≡ number_after l (role o)
number_copy l o redundant = rw (redundant_role o redundant) refl

pub unlike : (past : List Entry) (h : Head) (payload : List ℕ) → is_copy h ≡ true → is_repeated past h payload ≡ false → early_fault past h payload ≡ Some fault.Redundant
unlike past h payload copy none = early_copy past h payload copy ∙ rw none refl

pub copied : (past : List Entry) (view : ObuView) → Keeps past → is_descriptor (obu_type_of view.head.kind) ≡ true → is_copy (head_of view.head) ≡ true → is_repeated past (head_of view.head) view.payload.now ≡ true
    → (e : Entry) × IsTaken past view (record { content = None; unit = None }) e
copied past view keeps descriptor copy same =
    let h : Head = head_of view.head in
    let redundant : h.redundant ≡ true = copy_redundant h copy in
    let found = original (frame_length (roles past)) past h view.payload.now keeps.known descriptor same in
    let e : Entry = record { value = record { head = h; content = found.content; tail = found.tail }; payload = view.payload.now } in (
      e,
      record {
        next = record {
          head = refl;
          payload = refl;
          payload_is = payload_then past h.kind found.content found.tail view.payload.now descriptor found.is;
          admissible = record { early = early_copy past h view.payload.now copy ∙ rw same refl; late = late_copy (roles past) e.value redundant };
        };
        unit = number_copy (roles past) e.value redundant;
        says = copy;
      },
    )
