-- The payloads that redundant copies may repeat (IAMF 1.0.0, "obu_redundant_copy").
use Rattle.std.specs.Prelude.{◌≡◌, ℕ, true, false, Bool, ◌⊎◌, List}
use Rattle.std.specs.Ordering.{nat_cmp}
use Rattle.std.specs.BTreeMap.{get}
use Rattle.spec_obu.specs.Header.{Head}
use Rattle.spec_obu.specs.Kinds.{obu_type_of, is_descriptor}
use Rattle.spec_sequence.specs.Reading.{Entry, is_repeated}
use Rattle.iamf_copies.specs.Sets.{has_in}
use Rattle.iamf_copies.specs.declared.copies.Copies.{Copies}

abbrev pub has_copy : Copies → ℕ → List ℕ → Bool
has_copy c obu_type payload = has_in (get nat_cmp c.sets obu_type) payload

-- they are the payloads of the plain descriptors of the list
abbrev pub Stands : Copies → List Entry → Type 0
Stands c past = (h : Head) (payload : List ℕ) → is_descriptor (obu_type_of h.kind) ≡ true → has_copy c h.kind payload ≡ is_repeated past h payload

-- a redundant copy, or an OBU that is no descriptor
abbrev pub IsOther : Entry → Type 0
IsOther e = (e.value.head.redundant ≡ true) ⊎ (is_descriptor (obu_type_of e.value.head.kind) ≡ false)
