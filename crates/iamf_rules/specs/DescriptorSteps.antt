-- No definitions: what the calls of the descriptors' state answer and leave by its fields, for the prover.
use Rattle.std.specs.Prelude.{ℕ, ◌==◌, max, nat_lt, Bool, not, ◌||◌, if◌then◌else◌, List, [], ◌∷◌, Option, Some, None, is_some, is_none}
use Rattle.std.specs.BTreeMap.{btree_map_len}
use Rattle.std.specs.BTreeSet.{btree_set_len}
use Rattle.spec_values.specs.declared.fault.Fault.{Fault}
use Rattle.spec_values.specs.declared.fault.Fault.TheVariants.{Order, Repeated, Unknown, Incomplete, NoMixFits, SecondSequence}
use Rattle.spec_rules.specs.declared.codec_role.CodecRole.{CodecRole}
use Rattle.spec_rules.specs.Rules.{when, first_of, codec_tests}
use Rattle.iamf_rules.specs.declared.descriptors.Descriptors.{Descriptors}

abbrev pub profile_list : Option ℕ → List ℕ
profile_list None = []
profile_list (Some profile) = profile ∷ []

abbrev pub codec_list : Option CodecRole → List CodecRole
codec_list None = []
codec_list (Some codec) = codec ∷ []

abbrev pub primary_in : Option ℕ → ℕ
primary_in None = 0
primary_in (Some profile) = profile

abbrev pub primary_of : Descriptors → ℕ
primary_of d = primary_in d.profile

abbrev pub length_in : Option CodecRole → ℕ
length_in None = 0
length_in (Some codec) = codec.frame_length

abbrev pub length_of : Descriptors → ℕ
length_of d = length_in d.codec

abbrev pub rate_in : Option CodecRole → ℕ
rate_in None = 0
rate_in (Some codec) = codec.rate

abbrev pub rate_of : Descriptors → ℕ
rate_of d = rate_in d.codec

abbrev pub lacking : Descriptors → Bool
lacking d = is_none d.profile || is_none d.codec || btree_map_len d.elements == 0 || btree_set_len d.mixes == 0

abbrev pub whole_fault_of : Descriptors → Option Fault
whole_fault_of d = if lacking d then Some Incomplete else when (not d.has_fit) NoMixFits

abbrev pub out_of_order : Descriptors → ℕ → Bool
out_of_order d r = is_none d.profile || nat_lt r d.rank

abbrev pub order_fault_of : Descriptors → ℕ → Option Fault
order_fault_of d r = when (out_of_order d r) Order

abbrev pub header_fault_of : Descriptors → Option Fault
header_fault_of d = when (is_some d.profile) SecondSequence

abbrev pub codec_fault_of : Descriptors → ℕ → Option Fault
codec_fault_of d id = when (is_some d.codec) (Repeated id)

abbrev pub unknown_codec : Option CodecRole → ℕ → Option Fault
unknown_codec None id = Some (Unknown id)
unknown_codec (Some codec) id = if codec.id == id then None else Some (Unknown id)

abbrev pub coded_fault_of : Descriptors → Option ℕ → List ℕ → Option Fault
coded_fault_of d channels bytes = first_of (codec_tests (codec_list d.codec) channels bytes)

abbrev pub raised : Descriptors → ℕ → Descriptors
raised d r = record d { rank = max d.rank r }

abbrev pub with_header : Descriptors → ℕ → Descriptors
with_header d profile = record d { profile = Some profile; rank = max d.rank 1 }

abbrev pub with_codec : Descriptors → CodecRole → Descriptors
with_codec d codec = record d { codec = Some codec; rank = max d.rank 2 }
