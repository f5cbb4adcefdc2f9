-- What holds of sequences.
use Rattle.std.specs.Prelude.{◌≡◌, ◌↔◌, ℕ, ◌⊎◌, List}
use Rattle.spec_bits.specs.Bits.{AreBytes}
use Rattle.spec_values.specs.declared.fault.Fault.{Fault}
use Rattle.spec_values.specs.Value.{ObuValue}
use Rattle.spec_values.specs.Canonical.{encoded}
use Rattle.spec_sequence.specs.Reading.{Entry, Admitted, Reads, Refuses}
use Rattle.spec_sequence.specs.Narrow.{HasNarrowProfile, NarrowlyReads}

-- bytes are a sequence, or they are refused
abbrev pub EitherReadsOrRefused : Type 0
EitherReadsOrRefused = (bytes : List ℕ) → AreBytes bytes → ((s : List ObuValue) × Reads bytes s) ⊎ ((at : ℕ) × (f : Fault) × Refuses bytes at f)

abbrev pub ReadsIsNotRefused : Type 0
ReadsIsNotRefused = (bytes : List ℕ) (s : List ObuValue) (at : ℕ) (f : Fault) → Reads bytes s → Refuses bytes at f → ⊥

-- bytes are admitted as one list of OBUs
abbrev pub OneEntries : Type 0
OneEntries = (bytes : List ℕ) (s t : List Entry) → Admitted bytes s → Admitted bytes t → s ≡ t

abbrev pub OneReading : Type 0
OneReading = (bytes : List ℕ) (s t : List ObuValue) → Reads bytes s → Reads bytes t → s ≡ t

abbrev pub OneRefusal : Type 0
OneRefusal = (bytes : List ℕ) (at place : ℕ) (f g : Fault) → Refuses bytes at f → Refuses bytes place g → (at ≡ place) × (f ≡ g)

-- what is written of a sequence that was read reads as the same values
abbrev pub EncodedReads : Type 0
EncodedReads = (bytes : List ℕ) (s : List ObuValue) → Reads bytes s → Reads (encoded s) s

-- and of canonical bytes it is these bytes
abbrev pub EncodedSame : Type 0
EncodedSame = (bytes : List ℕ) (s t : List ObuValue) → Reads bytes s → Reads bytes t → bytes ≡ encoded t → encoded s ≡ bytes

-- the wide profile changes nothing of a sequence of another
abbrev pub NarrowSame : Type 0
NarrowSame = (bytes : List ℕ) (s : List ObuValue) → NarrowlyReads bytes s ↔ (Reads bytes s × HasNarrowProfile s)
