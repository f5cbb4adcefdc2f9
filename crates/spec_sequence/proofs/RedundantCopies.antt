-- What is a redundant copy, of what, and what is tested of it before its payload is read.
use Rattle.std.proofs.Common.{◌≡◌, ℕ, Bool, true, false, not, ◌&&◌, ◌||◌, eqb, List, refl, ◌∙◌, arith}
use Rattle.std.specs.Prelude.{IsTrue, is_some}
use Rattle.std.specs.Str.{bytes_eq}
use Rattle.std.specs.Cmp.Lexicographic.{bytes_decides}
use Rattle.std.proofs.lemmas.Bool.{and_parts, not-true, eqb-true}
use Rattle.spec_obu.specs.Header.{Head, are_allowed, is_copy}
use Rattle.spec_values.specs.declared.fault.Fault.TheVariants as fault
use Rattle.spec_obu.specs.declared.obu_type.ObuType.{ObuType}
use Rattle.spec_obu.specs.declared.obu_type.ObuType.TheVariants.{SequenceHeader, CodecConfig, AudioElement, MixPresentation, ParameterBlock, TemporalDelimiter, AudioFrame, Reserved}
use Rattle.spec_obu.specs.Kinds.{obu_type_of, is_descriptor, is_data, is_audio_frame, is_reserved}
use Rattle.spec_rules.specs.Rules.{when, fault_before}
use Rattle.spec_sequence.specs.Reading.{Entry, roles, is_copied, is_repeated, early_fault}
use Rattle.spec_values.proofs.KindsOfTypes.{reserved_kind}

-- an OBU that is no copy is plain, unless it is reserved
pub plain_of : (h : Head) (k : ObuType) → is_copy h ≡ false → k ≡ obu_type_of h.kind → (k ≡ Reserved → ⊥) → h.redundant ≡ false
plain_of h k copy is other = one h.redundant (is_reserved (obu_type_of h.kind)) copy (λ r. other (is ∙ reserved_kind (obu_type_of h.kind) r)) where
  one : (b r : Bool) → (b && not r) ≡ false → (r ≡ true → ⊥) → b ≡ false
  one true true e never = absurd (never refl)
  one true false e never = e
  one false r e never = refl

-- a copy is of a descriptor, by the flags that its header may have
pub copy_kind : (h : Head) → IsTrue (are_allowed (obu_type_of h.kind) h.redundant (is_some h.trim)) → is_copy h ≡ true → is_descriptor (obu_type_of h.kind) ≡ true
copy_kind h allowed copy = one (obu_type_of h.kind) h.redundant (not (is_some h.trim)) allowed copy where
  one : (t : ObuType) (redundant untrimmed : Bool) → ((untrimmed || is_audio_frame t) && (not redundant || not (is_data t))) ≡ true → (redundant && not (is_reserved t)) ≡ true → is_descriptor t ≡ true
  one SequenceHeader redundant untrimmed a c = refl
  one CodecConfig redundant untrimmed a c = refl
  one AudioElement redundant untrimmed a c = refl
  one MixPresentation redundant untrimmed a c = refl
  one ParameterBlock redundant untrimmed a c = grind arith
  one TemporalDelimiter redundant untrimmed a c = grind arith
  one AudioFrame redundant untrimmed a c = grind arith
  one Reserved redundant untrimmed a c = grind arith

-- what is copied is plain, and of the same type and payload
pub copied_parts : (h : Head) (payload : List ℕ) (e : Entry) → is_copied h payload e ≡ true → (e.value.head.redundant ≡ false) × (e.value.head.kind ≡ h.kind) × (e.payload ≡ payload)
copied_parts h payload e copied =
    let a = and_parts (not e.value.head.redundant) (eqb e.value.head.kind h.kind && bytes_eq e.payload payload) copied in
    let b = and_parts (eqb e.value.head.kind h.kind) (bytes_eq e.payload payload) a.1 in
    (not-true e.value.head.redundant a.0, eqb-true e.value.head.kind h.kind b.0, (bytes_decides e.payload payload).0 b.1)

-- ---- before the payload

pub early_copy : (past : List Entry) (h : Head) (payload : List ℕ) → is_copy h ≡ true → early_fault past h payload ≡ when (not (is_repeated past h payload)) fault.Redundant
unfolding early_fault
early_copy past h payload copy = rw copy refl

pub early_plain : (past : List Entry) (h : Head) (payload : List ℕ) → is_copy h ≡ false → early_fault past h payload ≡ fault_before (roles past) (obu_type_of h.kind)
unfolding early_fault
early_plain past h payload copy = rw copy refl
