-- What is written of a body, as a file or as a bare sequence, has that body and no other.
use Rattle.std.specs.Prelude.{◌≡◌, ℕ, ◌+◌, ◌≤◌, ◌^◌, List, length, All}
use Rattle.spec_boxes.specs.Laws.{Holds, BoxRefuses}
use Rattle.spec_files.specs.MovieFile.{Movie, count, all_units, file}
use Rattle.spec_files.specs.Body.{IsBody, HasBody, rebuilt}

-- Few enough bytes and units that each size in the file is a number of 32 bits.
pub record IsSmall (m : Movie) : Type 0 where
  pub bytes : length m.descriptors + length (all_units m) ≤ 2 ^ 30
  pub units : count m ≤ 2 ^ 29

-- the units are few wherever each has two bytes, which is the least of an OBU
abbrev pub UnitsAreFew : Type 0
UnitsAreFew = (m : Movie) → length m.descriptors + length (all_units m) ≤ 2 ^ 30 → All (λ u. 2 ≤ length u) m.units → IsSmall m

-- the written file holds what was written
abbrev pub FileHolds : Type 0
FileHolds = (m : Movie) → IsSmall m → IsBody m.descriptors m.units → Holds (file m) m.descriptors m.units

-- and nothing else, and no rule refuses it
pub record HoldsOnly (m : Movie) : Type 0 where
  pub only : (descriptors : List ℕ) (samples : List (List ℕ)) → Holds (file m) descriptors samples → (descriptors ≡ m.descriptors) × (samples ≡ m.units)
  pub never : (at code : ℕ) → BoxRefuses (file m) at code → ⊥

abbrev pub FileHoldsOnly : Type 0
FileHoldsOnly = (m : Movie) → IsSmall m → IsBody m.descriptors m.units → HoldsOnly m

-- the sequence that is built of a body has it
abbrev pub RebuiltHasBody : Type 0
RebuiltHasBody = (descriptors : List ℕ) (units : List (List ℕ)) → IsBody descriptors units → HasBody (rebuilt descriptors units) descriptors units

-- bytes have one body
abbrev pub OneBody : Type 0
OneBody = (bytes descriptors others : List ℕ) (units more : List (List ℕ)) → HasBody bytes descriptors units → HasBody bytes others more → (descriptors ≡ others) × (units ≡ more)
