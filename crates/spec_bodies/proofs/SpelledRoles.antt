-- The role of an OBU, by its type.
use Rattle.std.proofs.Common.{◌≡◌, ℕ, Bool, true, false, not, ◌&&◌, ◌||◌, cond, List, [], ◌∷◌, ◌++◌, refl, sym, ap, subst, ◌∙◌, arith}
use Rattle.std.specs.Prelude.{is_some, None}
use Rattle.std.proofs.lemmas.List.{map-append}
use Rattle.spec_obu.specs.declared.obu_type.ObuType.{ObuType}
use Rattle.spec_obu.specs.declared.obu_type.ObuType.TheVariants as obu_type
use Rattle.spec_obu.specs.Kinds.{obu_type_of, is_audio_frame}
use Rattle.spec_obu.specs.Kinds as kinds
use Rattle.spec_values.specs.Content.{Context}
use Rattle.spec_values.specs.Value.{ObuValue, Spells}
use Rattle.spec_rules.specs.Role.{Role, Ignored}
use Rattle.spec_rules.specs.Units as units
use Rattle.spec_rules.specs.Rules.{fault_before, fault_after}
use Rattle.spec_rules.specs.Admitted.{type_of_role, HasNoFault}
use Rattle.spec_sequence.specs.ValueRole.{plain_role}
use Rattle.spec_sequence.specs.Reading.{roles, IsAdmissible, early_fault}
use Rattle.spec_sequence.proofs.RedundantCopies.{early_plain}
use Rattle.spec_sequence.proofs.AdmittedSequences.{plain_type, reserved_before, plain_copy}
use Rattle.spec_files.specs.Body.{is_descriptor, is_data}
use Rattle.spec_files.specs.Body as body
use Rattle.spec_bodies.specs.Spelled.{Spelled, entry_of, obu_of, role_of, entries_of, roles_of}

-- of a descriptor, and of a frame or a block
abbrev pub describes : Role → Bool
describes o = kinds.is_descriptor (type_of_role o)

abbrev pub carries : Role → Bool
carries o = body.carries (type_of_role o)

-- ---- the type of the role

pub typed : (context : Context) (o : ObuValue) (payload bytes : List ℕ) → Spells context o payload bytes → o.head.redundant ≡ false → type_of_role (plain_role o.head o.content o.tail) ≡ obu_type_of o.head.kind
typed context o payload bytes s plain = plain_type context o.head o.content o.tail payload (obu_type_of o.head.kind) refl s.payload_is.says

-- ---- what its type tells of the role

redundant_carries : (t : ObuType) (redundant untrimmed : Bool) → redundant ≡ true → ((untrimmed || is_audio_frame t) && (not redundant || not (kinds.is_data t))) ≡ true → body.carries t ≡ false
redundant_carries obu_type.ParameterBlock redundant untrimmed copy allowed = absurd (grind arith)
redundant_carries obu_type.AudioFrame redundant untrimmed copy allowed = absurd (grind arith)
redundant_carries _ redundant untrimmed copy allowed = refl

pub descriptor_is : (context : Context) (o : Spelled) → Spells context o.value o.payload o.bytes → is_descriptor (obu_of o) ≡ describes (role_of o)
descriptor_is context o s = one o.value.head.redundant refl where
  one : (b : Bool) → o.value.head.redundant ≡ b → (not b && kinds.is_descriptor (obu_type_of o.value.head.kind)) ≡ describes (cond b Ignored (plain_role o.value.head o.value.content o.value.tail))
  one true e = refl
  one false e = ap kinds.is_descriptor (sym (typed context o.value o.payload o.bytes s e))

pub data_is : (context : Context) (o : Spelled) → Spells context o.value o.payload o.bytes → is_data (obu_of o) ≡ carries (role_of o)
data_is context o s = one o.value.head.redundant refl where
  one : (b : Bool) → o.value.head.redundant ≡ b → body.carries (obu_type_of o.value.head.kind) ≡ carries (cond b Ignored (plain_role o.value.head o.value.content o.value.tail))
  one true e = redundant_carries (obu_type_of o.value.head.kind) o.value.head.redundant (not (is_some o.value.head.trim)) e s.header.allowed
  one false e = ap body.carries (sym (typed context o.value o.payload o.bytes s e))

-- ---- faults

pub roles_are : (os : List Spelled) → roles (entries_of os) ≡ roles_of os
roles_are [] = refl
roles_are (o ∷ os) = ap (λ (l : List Role). role_of o ∷ l) (roles_are os)

pub roles_push : (os : List Spelled) (o : Spelled) → roles_of (os ++ o ∷ []) ≡ roles_of os ++ role_of o ∷ []
roles_push os o = map-append role_of os (o ∷ [])

-- before the payload the same is tested, by the type of the role
pub early_is : (past : List Spelled) (context : Context) (o : Spelled) → Spells context o.value o.payload o.bytes → o.value.head.redundant ≡ false
    → early_fault (entries_of past) o.value.head o.payload ≡ fault_before (roles_of past) (type_of_role (plain_role o.value.head o.value.content o.value.tail))
early_is past context o s plain =
    early_plain (entries_of past) o.value.head o.payload (plain_copy o.value.head plain)
    ∙ ap (λ (l : List Role). fault_before l (obu_type_of o.value.head.kind)) (roles_are past)
    ∙ ap (fault_before (roles_of past)) (sym (typed context o.value o.payload o.bytes s plain))

pub no_fault : (past : List Spelled) (context : Context) (o : Spelled) → Spells context o.value o.payload o.bytes → IsAdmissible (entries_of past) (entry_of o) → HasNoFault (roles_of past) (role_of o)
no_fault past context o s a = record {
  early = one o.value.head.redundant refl;
  late = subst (λ (l : List Role). fault_after l (role_of o) ≡ None) (roles_are past) a.late;
} where
  one : (b : Bool) → o.value.head.redundant ≡ b → fault_before (roles_of past) (type_of_role (cond b Ignored (plain_role o.value.head o.value.content o.value.tail))) ≡ None
  one true e = reserved_before (roles_of past)
  one false e = sym (early_is past context o s e) ∙ a.early

-- an OBU that counts for something is plain, so its role has its type
pub typed_role : (context : Context) (o : Spelled) → Spells context o.value o.payload o.bytes → units.is_data (role_of o) ≡ true → type_of_role (role_of o) ≡ obu_type_of o.value.head.kind
typed_role context o s some = one o.value.head.redundant refl some where
  one : (b : Bool) → o.value.head.redundant ≡ b → units.is_data (cond b Ignored (plain_role o.value.head o.value.content o.value.tail)) ≡ true
      → type_of_role (cond b Ignored (plain_role o.value.head o.value.content o.value.tail)) ≡ obu_type_of o.value.head.kind
  one true e h = absurd cc
  one false e h = typed context o.value o.payload o.bytes s e
