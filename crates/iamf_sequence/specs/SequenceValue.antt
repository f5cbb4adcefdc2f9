-- What contracts see of a sequence: its bytes, and the OBUs of which they are spellings.
use Rattle.std.specs.Prelude.{◌≡◌, ℕ, List, None}
use Rattle.spec_rules.specs.Rules.{end_fault}
use Rattle.spec_sequence.specs.Reading.{Entry, roles, Admitted}

-- The bytes are spellings of these OBUs one after the other, and the OBUs are a sequence.
pub record IsRead (bytes : List ℕ) (l : List Entry) : Type 0 where
  pub admitted : Admitted bytes l
  pub whole : end_fault (roles l) ≡ None

-- the OBUs of bytes that are a sequence
abbrev pub HasEntries : List ℕ → Type 0
HasEntries bytes = (l : List Entry) × ∥ IsRead bytes l ∥₁

pub record SequenceValue : Type 0 where
  pub bytes : List ℕ
  pub entries : List Entry

abbrev pub sequence : List ℕ → List Entry → SequenceValue
sequence bytes entries = record { bytes = bytes; entries = entries }
