-- What holds of bytes that come in pieces.
use Rattle.std.specs.Prelude.{◌≡◌, ℕ, List, ◌++◌}
use Rattle.spec_obu.specs.declared.HeaderFault.{HeaderFault}
use Rattle.spec_obu.specs.Header.{Head}
use Rattle.spec_obu.specs.Laws.{HasHeader}
use Rattle.spec_values.specs.declared.fault.Fault.{Fault}
use Rattle.spec_values.specs.declared.fault.Fault.TheVariants.{Header}
use Rattle.spec_sequence.specs.Reading.{Entry, Admitted, HasFault}
use Rattle.spec_streams.specs.Front.{IsSure, IsPartial}
use Rattle.spec_streams.specs.Settled.{Settled}

abbrev pub SureFaultStays : Type 0
SureFaultStays = (bytes more : List ℕ) (f : HeaderFault) → IsSure f bytes → IsSure f (bytes ++ more)

-- no whole OBU stands at the front of bytes that are cut off
abbrev pub PartialIsNotWhole : Type 0
PartialIsNotWhole = (bytes : List ℕ) → IsPartial bytes → HasHeader bytes → ⊥

-- an OBU whose header is read has no fault of a header
abbrev pub ObuFaultIsItsOwn : Type 0
ObuFaultIsItsOwn = (past : List Entry) (h : Head) (payload : List ℕ) (f : Fault) (g : HeaderFault) → HasFault past h payload f → f ≡ Header g → ⊥

abbrev pub SettledStays : Type 0
SettledStays = (bytes more : List ℕ) (at : ℕ) (f : Fault) → Settled bytes at f → Settled (bytes ++ more) at f

-- OBUs that are admitted and then the front of one have no settled refusal
abbrev pub PartialIsNotSettled : Type 0
PartialIsNotSettled = (good rest : List ℕ) (entries : List Entry) (at : ℕ) (f : Fault) → Admitted good entries → IsPartial rest → Settled (good ++ rest) at f → ⊥
