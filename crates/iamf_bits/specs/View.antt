-- What a view takes from the bits that are left.
use Rattle.std.specs.Prelude.{◌≡◌, ℕ, List, ◌++◌, Result, Ok, Err}
use Rattle.spec_bits.specs.declared.FieldFault.{FieldFault}
use Rattle.spec_bits.specs.Bits.{Bits}
use Rattle.spec_bits.specs.Form.{Form, Value, Spells}
use Rattle.spec_bits.specs.Cursor.{Cursor, bits_left}

-- What a take answered is what reading the field gives; a fault leaves the view as it was.
abbrev pub Takes : {V W : Type 0} → (V → W) → Result V FieldFault → Cursor → Cursor → Result (W × Cursor) FieldFault → Type 0
Takes view (Ok v) old new read = read ≡ Ok (view v, new)
Takes view (Err e) old new read = (read ≡ Err e) × (new ≡ old)

-- The same of whole bytes: the value, and the bytes that are left after it.
abbrev pub TakesBytes : {V W : Type 0} → (V → W) → Result V FieldFault → List ℕ → Result (W × List ℕ) FieldFault → Type 0
TakesBytes view (Ok v) left read = read ≡ Ok (view v, left)
TakesBytes view (Err e) left read = read ≡ Err e

-- The value is spelled at the front of what was left, and what is left now comes right after it.
pub record MovesPast (form : Form) (v : Value form) (old new : Cursor) : Type 0 where
  pub front : Bits
  pub spells : Spells form v front
  pub parts : bits_left old ≡ front ++ bits_left new
  pub bytes : new.bytes ≡ old.bytes
