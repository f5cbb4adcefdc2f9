-- Sequences of the Simple and the Base profile alone, as the rules are without the wide one: `primary_profile` is at most 1,
-- and each profile but Simple is Base. All else is as in `Reading`.
use Rattle.std.specs.Prelude.{◌≡◌, ◌≤◌, ℕ, ◌==◌, nat_lt, nat_le, Bool, false, not, ◌&&◌, if◌then◌else◌, List, [], ◌∷◌, ◌++◌, length, Option, Some, None}
use Rattle.std.specs.List.{list_any}
use Rattle.spec_bits.specs.Bits.{AreBytes, all_bits}
use Rattle.spec_bits.specs.Form.{Number}
use Rattle.spec_syntax.specs.Syntax.{Syntax, End, field, refuse, ◌>>=◌}
use Rattle.spec_syntax.specs.Payload.{Payload}
use Rattle.spec_obu.specs.declared.obu_type.ObuType.{ObuType}
use Rattle.spec_obu.specs.declared.obu_type.ObuType.TheVariants.{SequenceHeader}
use Rattle.spec_obu.specs.Kinds.{obu_type_of, is_data}
use Rattle.spec_obu.specs.Header.{Head, Header, is_copy}
use Rattle.spec_descriptors.specs.declared.fault.DescriptorFault.{DescriptorFault}
use Rattle.spec_descriptors.specs.declared.fault.DescriptorFault.TheVariants as descriptor
use Rattle.spec_descriptors.specs.SequenceHeader.{SequenceHeaderFields}
use Rattle.spec_descriptors.specs.DescriptorFields.{sequence_header_fields}
use Rattle.spec_values.specs.declared.fault.Fault.{Fault}
use Rattle.spec_values.specs.declared.fault.Fault.TheVariants as fault
use Rattle.spec_values.specs.Content.{Content, Context, Says}
use Rattle.spec_values.specs.Content as content
use Rattle.spec_values.specs.Value.{ObuValue}
use Rattle.spec_rules.specs.Role.{MixRole, Role}
use Rattle.spec_rules.specs.Descriptors.{profiles, elements, mixes}
use Rattle.spec_rules.specs.Profile.{channels_of_sub_mix, first_profile}
use Rattle.spec_rules.specs.Units as units
use Rattle.spec_rules.specs.Rules.{when, first_of, lacks_descriptors, has_short_unit, fault_before, fault_after}
use Rattle.spec_sequence.specs.ValueRole.{role}
use Rattle.spec_sequence.specs.Reading.{Entry, values_of, roles, context_after, is_repeated}
use Rattle.spec_sequence.specs.Parts.{roles_of}

-- the profile of the sequence is Simple or Base
abbrev pub HasNarrowProfile : List ObuValue → Type 0
HasNarrowProfile s = first_profile (profiles (roles_of s)) ≤ 1

-- ---- one payload

unfoldable pub narrow_header : Syntax DescriptorFault SequenceHeaderFields
narrow_header = do
  _ ← field (Number 32) (refuse descriptor.Code (λ ia_code. not (ia_code == 0x69616d66)) ∷ [])
  primary_profile ← field (Number 8) (refuse descriptor.Profile (λ n. nat_lt 1 n) ∷ [])
  additional_profile ← field (Number 8) []
  End (record { primary_profile = primary_profile; additional_profile = additional_profile })

abbrev pub NarrowlySays : Context → ℕ → ObuType → Content → List ℕ → List ℕ → Type 0
NarrowlySays context obu_type SequenceHeader (content.Header h) tail payload = Payload narrow_header (sequence_header_fields h) h (all_bits tail) (all_bits payload)
NarrowlySays context obu_type k c tail payload = Says context obu_type k c tail payload

pub record NarrowlySpells (context : Context) (o : ObuValue) (payload bytes : List ℕ) : Type 0 where
  pub header : Header o.head payload bytes
  pub says : NarrowlySays context o.head.kind (obu_type_of o.head.kind) o.content o.tail payload
  pub are_bytes : AreBytes payload
  pub tail_is : AreBytes o.tail

-- ---- what fits

abbrev pub are_narrowly_within : (primary_profile elements channels : ℕ) → Bool
are_narrowly_within primary_profile elements channels =
    if primary_profile == 0 then elements == 1 && nat_le channels 16
    else nat_le 1 elements && (nat_le elements 2 && nat_le channels 18)

abbrev pub fits_narrow_channels : ℕ → ℕ → Option ℕ → Bool
fits_narrow_channels primary_profile count None = false
fits_narrow_channels primary_profile count (Some channels) = are_narrowly_within primary_profile count channels

unfoldable pub fits_narrowly : List Role → MixRole → Bool
fits_narrowly l m = m.sub_mixes == 1 && fits_narrow_channels (first_profile (profiles l)) (length m.elements) (channels_of_sub_mix (elements l) m.elements)

unfoldable pub has_narrow_fit : List Role → Bool
has_narrow_fit l = list_any (fits_narrowly l) (mixes l)

-- ---- the rules

abbrev pub narrow_start_tests : List Role → List (Option Fault)
narrow_start_tests l =
    when (not (list_any units.is_data l) && lacks_descriptors l) fault.Incomplete
    ∷ when (not (list_any units.is_data l) && not (has_narrow_fit l)) fault.NoMixFits
    ∷ []

unfoldable pub narrow_fault_before : List Role → ObuType → Option Fault
narrow_fault_before l obu_type = if is_data obu_type then first_of (narrow_start_tests l) else fault_before l obu_type

unfoldable pub narrow_end_fault : List Role → Option Fault
narrow_end_fault l = first_of (narrow_start_tests l ++ when (has_short_unit l) fault.UnitShort ∷ [])

abbrev pub narrow_early_fault : List Entry → Head → List ℕ → Option Fault
narrow_early_fault past h payload =
    if is_copy h then when (not (is_repeated past h payload)) fault.Redundant else narrow_fault_before (roles past) (obu_type_of h.kind)

-- ---- sequences

abbrev pub NarrowlyAdmittedAfter : List Entry → List ℕ → List Entry → Type 0
NarrowlyAdmittedAfter past bytes [] = bytes ≡ []
NarrowlyAdmittedAfter past bytes (e ∷ es) =
    (piece : List ℕ) × (rest : List ℕ) × (bytes ≡ piece ++ rest) × NarrowlySpells (context_after past) e.value e.payload piece
    × (narrow_early_fault past e.value.head e.payload ≡ None) × (fault_after (roles past) (role e.value) ≡ None)
    × NarrowlyAdmittedAfter (past ++ e ∷ []) rest es

pub record NarrowlyReads (bytes : List ℕ) (s : List ObuValue) : Type 0 where
  pub entries : List Entry
  pub values_are : values_of entries ≡ s
  pub admitted : NarrowlyAdmittedAfter [] bytes entries
  pub whole : narrow_end_fault (roles entries) ≡ None
