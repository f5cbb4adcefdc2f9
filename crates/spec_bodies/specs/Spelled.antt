-- The OBUs of a sequence, each with its bytes.
use Rattle.std.specs.Prelude.{◌≡◌, ℕ, List, [], ◌∷◌, ◌++◌, map, None}
use Rattle.spec_obu.specs.Listing.{Obu, joined}
use Rattle.spec_values.specs.Value.{ObuValue, Spells}
use Rattle.spec_rules.specs.Role.{Role}
use Rattle.spec_rules.specs.Rules.{end_fault}
use Rattle.spec_sequence.specs.ValueRole.{role}
use Rattle.spec_sequence.specs.Reading.{Entry, context_after, IsAdmissible}

-- an OBU of the input: what it says, the payload that spelled it, and all its bytes
pub record Spelled : Type 0 where
  pub value : ObuValue
  pub payload : List ℕ
  pub bytes : List ℕ

abbrev pub entry_of : Spelled → Entry
entry_of o = record { value = o.value; payload = o.payload }

abbrev pub obu_of : Spelled → Obu
obu_of o = record { head = o.value.head; payload = o.payload; bytes = o.bytes }

abbrev pub role_of : Spelled → Role
role_of o = role o.value

abbrev pub entries_of : List Spelled → List Entry
entries_of os = map entry_of os

abbrev pub obus_of : List Spelled → List Obu
obus_of os = map obu_of os

abbrev pub roles_of : List Spelled → List Role
roles_of os = map role_of os

-- one after the other
abbrev pub bytes_of : List Spelled → List ℕ
bytes_of os = joined (obus_of os)

-- after the past, each OBU spells its value and has no fault after those before it
abbrev pub AdmittedAfter : List Spelled → List Spelled → Type 0
AdmittedAfter past [] = Unit {0}
AdmittedAfter past (o ∷ os) = Spells (context_after (entries_of past)) o.value o.payload o.bytes × IsAdmissible (entries_of past) (entry_of o) × AdmittedAfter (past ++ o ∷ []) os

-- The OBUs are a sequence.
pub record AreSequence (os : List Spelled) : Type 0 where
  pub admitted : AdmittedAfter [] os
  pub ended : end_fault (roles_of os) ≡ None
