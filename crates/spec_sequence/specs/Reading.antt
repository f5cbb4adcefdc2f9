-- Which OBUs are admitted after others, which bytes are a sequence, and where and why the others are refused.
use Rattle.std.specs.Prelude.{◌≡◌, ℕ, ◌==◌, Bool, true, false, not, ◌&&◌, if◌then◌else◌, List, [], ◌∷◌, ◌++◌, length, map, Option, Some, None}
use Rattle.std.specs.List.{list_any}
use Rattle.std.specs.Str.{bytes_eq}
use Rattle.spec_obu.specs.declared.HeaderFault.{HeaderFault}
use Rattle.spec_obu.specs.declared.obu_type.ObuType.TheVariants.{AudioElement}
use Rattle.spec_obu.specs.Header.{Head, Header, is_copy}
use Rattle.spec_obu.specs.Faults as header
use Rattle.spec_values.specs.declared.fault.Fault.{Fault}
use Rattle.spec_values.specs.declared.fault.Fault.TheVariants as fault
use Rattle.spec_obu.specs.Kinds.{obu_type_of, is_descriptor}
use Rattle.spec_values.specs.Content.{Content, Context, by_length, PayloadOf, PayloadFault}
use Rattle.spec_values.specs.Value.{ObuValue, Spells}
use Rattle.spec_rules.specs.Role.{Role}
use Rattle.spec_sequence.specs.ValueRole.{role}
use Rattle.spec_rules.specs.Descriptors.{codecs, frame_length, context_of}
use Rattle.spec_rules.specs.Rules.{when, fault_before, fault_after, end_fault}

-- An OBU of the input: its value, and the payload that spelled it. Redundant copies alone look at payloads.
pub record Entry : Type 0 where
  pub value : ObuValue
  pub payload : List ℕ

abbrev pub values_of : List Entry → List ObuValue
values_of past = map (λ e. e.value) past

abbrev pub roles : List Entry → List Role
roles past = map (λ e. role e.value) past

abbrev pub context_after : List Entry → Context
context_after past = context_of (roles past)

-- ---- redundant copies (IAMF 1.0.0, "obu_redundant_copy")

-- a plain OBU of the type with exactly this payload
abbrev pub is_copied : Head → List ℕ → Entry → Bool
is_copied h payload e = not e.value.head.redundant && (e.value.head.kind == h.kind && bytes_eq e.payload payload)

abbrev pub is_repeated : List Entry → Head → List ℕ → Bool
is_repeated past h payload = list_any (is_copied h payload) past

-- ---- one OBU after others

-- the fault that is tested before the payload is read
unfoldable pub early_fault : List Entry → Head → List ℕ → Option Fault
early_fault past h payload =
    if is_copy h then when (not (is_repeated past h payload)) fault.Redundant else fault_before (roles past) (obu_type_of h.kind)

-- the OBU with this value and this payload has no fault
pub record IsAdmissible (past : List Entry) (e : Entry) : Type 0 where
  pub early : early_fault past e.value.head e.payload ≡ None
  pub late : fault_after (roles past) (role e.value) ≡ None

-- The first fault of an OBU with this head and this payload: one that is tested before the payload is read, or else of
-- the payload, or else one that is tested after it.
pub data HasFault (past : List Entry) (h : Head) (payload : List ℕ) (f : Fault) : Type 0 where
  Early : early_fault past h payload ≡ Some f → HasFault past h payload f
  OfPayload : early_fault past h payload ≡ None → PayloadFault (context_after past) h.kind f payload → HasFault past h payload f
  Late : early_fault past h payload ≡ None → (content : Content) → (tail : List ℕ) → PayloadOf (context_after past) h.kind content tail payload
      → fault_after (roles past) (role (record { head = h; content = content; tail = tail })) ≡ Some f → HasFault past h payload f

-- ---- sequences

-- After the past, the bytes are spellings of these OBUs one after the other, each without a fault after those before it.
abbrev pub AdmittedAfter : List Entry → List ℕ → List Entry → Type 0
AdmittedAfter past bytes [] = bytes ≡ []
AdmittedAfter past bytes (e ∷ es) =
    (piece : List ℕ) × (rest : List ℕ) × (bytes ≡ piece ++ rest) × Spells (context_after past) e.value e.payload piece
    × IsAdmissible past e × AdmittedAfter (past ++ e ∷ []) rest es

abbrev pub Admitted : List ℕ → List Entry → Type 0
Admitted bytes entries = AdmittedAfter [] bytes entries

-- The bytes read as the sequence of these OBUs.
pub record Reads (bytes : List ℕ) (s : List ObuValue) : Type 0 where
  pub entries : List Entry
  pub values_are : values_of entries ≡ s
  pub admitted : Admitted bytes entries
  pub whole : end_fault (roles entries) ≡ None

-- The fault at the front of the rest: of a header, of an OBU, or of the end where nothing is left.
pub data FailsAt (past : List Entry) (rest : List ℕ) (f : Fault) : Type 0 where
  AtEnd : rest ≡ [] → end_fault (roles past) ≡ Some f → FailsAt past rest f
  OfHeader : (h : HeaderFault) → header.IsFirstFault h rest → (rest ≡ [] → ⊥) → f ≡ fault.Header h → FailsAt past rest f
  OfObu : (h : Head) → (payload piece more : List ℕ) → rest ≡ piece ++ more → Header h payload piece → HasFault past h payload f → FailsAt past rest f

-- The bytes are refused at this place for this fault.
pub record Refuses (bytes : List ℕ) (at : ℕ) (f : Fault) : Type 0 where
  pub good : List ℕ
  pub rest : List ℕ
  pub entries : List Entry
  pub splits : bytes ≡ good ++ rest
  pub place : at ≡ length good
  pub admitted : Admitted good entries
  pub fails : FailsAt entries rest f

-- ---- what the payloads of descriptors are read by: the frame length, which stays as it is once there is a codec config

abbrev pub IsPlain : Entry → Type 0
IsPlain e = e.value.head.redundant ≡ false

-- the payload of a plain descriptor says its value where frames have so many samples
abbrev pub IsKnown : ℕ → Entry → Type 0
IsKnown n e = IsPlain e → is_descriptor (obu_type_of e.value.head.kind) ≡ true → PayloadOf (by_length n) e.value.head.kind e.value.content e.value.tail e.payload

abbrev pub Known : ℕ → List Entry → Type 0
Known n [] = Unit {0}
Known n (e ∷ es) = IsKnown n e × Known n es

abbrev pub IsNoElement : Entry → Type 0
IsNoElement e = IsPlain e → obu_type_of e.value.head.kind ≡ AudioElement → ⊥

abbrev pub LacksElements : List Entry → Type 0
LacksElements [] = Unit {0}
LacksElements (e ∷ es) = IsNoElement e × LacksElements es

-- By the frame length after all of them each plain descriptor says what it did where it stood, and before a codec config
-- there is no element, which alone is read by it.
pub record Keeps (past : List Entry) : Type 0 where
  pub known : Known (frame_length (roles past)) past
  pub first : codecs (roles past) ≡ [] → LacksElements past
