-- What a take answers.
use Rattle.std.specs.Prelude.{◌≡◌, ℕ, ◌^◌, List, Result, Ok, Err, if◌then◌else◌, nat_lt}
use Rattle.spec_bits.specs.declared.FieldFault.{FieldFault}
use Rattle.spec_bits.specs.declared.FieldFault.TheVariants as field
use Rattle.spec_bits.specs.Cursor.{Cursor}
use Rattle.spec_flac.specs.declared.fault.FlacFault.{FlacFault}
use Rattle.spec_flac.specs.declared.fault.FlacFault.TheVariants as fault

-- a count of bits, which needs no more than 33 bits itself
abbrev pub capped : ℕ → ℕ
capped n = if nat_lt n (2 ^ 32) then n else 2 ^ 32

abbrev pub cursor : List ℕ → ℕ → Cursor
cursor bytes place = record { bytes = bytes; place = place }

-- The value and the place after it are what the field gives, or the bits end in it.
abbrev pub Takes : {V W : Type 0} → (V → W) → Result V FlacFault → Cursor → Result (W × Cursor) FieldFault → Type 0
Takes view (Ok v) new given = given ≡ Ok (view v, new)
Takes view (Err f) new given = (given ≡ Err field.Short) × (f ≡ fault.Short)

-- The same of zeros ended by a one, where a count of 2 ^ 32 zeros or more is answered as 2 ^ 32.
abbrev pub TakesZeros : Result ℕ FlacFault → Cursor → Result (ℕ × Cursor) FieldFault → Type 0
TakesZeros (Ok v) new given = (n : ℕ) × (given ≡ Ok (n, new)) × (v ≡ capped n)
TakesZeros (Err f) new given = (given ≡ Err field.Short) × (f ≡ fault.Short)
