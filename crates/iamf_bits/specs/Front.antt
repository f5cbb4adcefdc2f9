-- What a reader of a field at the front of bytes answers.
use Rattle.std.specs.Prelude.{◌≡◌, ◌+◌, ◌<◌, ◌≤◌, ℕ, List, length, take, drop, Result, Ok, Err}
use Rattle.spec_bits.specs.declared.FieldFault.{FieldFault}

-- the value and how many bytes it takes are what reading gives
abbrev pub Fronts : {A : Type 0} → Result (A × ℕ) FieldFault → List ℕ → Result (A × List ℕ) FieldFault → Type 0
Fronts (Ok x) bytes read = (x.1 ≤ length bytes) × (read ≡ Ok (x.0, drop x.1 bytes))
Fronts (Err f) bytes read = read ≡ Err f

-- the text is the bytes before a zero byte
abbrev pub FrontsText : Result ℕ FieldFault → List ℕ → Result (List ℕ × List ℕ) FieldFault → Type 0
FrontsText (Ok n) bytes read = (n < length bytes) × (read ≡ Ok (take n bytes, drop (n + 1) bytes))
FrontsText (Err f) bytes read = read ≡ Err f
