-- RFC 9639, section 9 (frame structure), 9.2.1 and 4.2 (interchannel decorrelation), 9.3 (frame footer).
use Rattle.std.specs.Prelude.{◌≡◌, ◌<◌, ℕ, ◌+◌, ◌-◌, ◌%◌, ℤ, pos, ◌+ℤ◌, ◌-ℤ◌, ◌*ℤ◌, Bool, false, not, ◌||◌, List, [], ◌∷◌, length, if◌then◌else◌, nat_lt, ◌==◌, ◌⊎◌, Result, Ok, Err}
use Rattle.std.specs.Int.{int_div_euclid, int_rem_euclid}
use Rattle.spec_bits.specs.Bits.{Bits, all_bits}
use Rattle.spec_bits.specs.Form.{Number}
use Rattle.spec_syntax.specs.Syntax.{Syntax, End, Choice, field, check, seen, refuse, ◌>>=◌, ◌>>◌}
use Rattle.spec_syntax.specs.Payload.{FieldValue, Payload, Faults}
use Rattle.spec_checksums.specs.Polynomials.{crc_16_of}
use Rattle.spec_flac.specs.declared.fault.FlacFault.{FlacFault}
use Rattle.spec_flac.specs.declared.fault.FlacFault.TheVariants as fault
use Rattle.spec_flac.specs.declared.shape.FlacShape.{FlacShape}
use Rattle.spec_flac.specs.Faults.{short}
use Rattle.spec_flac.specs.Header.{header}
use Rattle.spec_flac.specs.Residual.{is_sample}
use Rattle.spec_flac.specs.Subframe.{subframe, half_of}

-- ---- 4.2: left and right from what two subframes hold

-- twice the middle, with the bit that the side has too
abbrev pub middle : ℤ → ℤ → ℤ
middle m s = (pos 2 *ℤ m) +ℤ int_rem_euclid s (pos 2)

abbrev pub left_of : ℕ → ℤ → ℤ → ℤ
left_of code a b = if code == 8 then a else if code == 9 then a +ℤ b else int_div_euclid (middle a b +ℤ b) (pos 2)

abbrev pub right_of : ℕ → ℤ → ℤ → ℤ
right_of code a b = if code == 8 then a -ℤ b else if code == 9 then b else int_div_euclid (middle a b -ℤ b) (pos 2)

abbrev pub paired : (ℤ → ℤ → ℤ) → List ℤ → List ℤ → List ℤ
paired f [] ys = []
paired f (x ∷ xs) [] = []
paired f (x ∷ xs) (y ∷ ys) = f x y ∷ paired f xs ys

abbrev pub has_other : ℤ → List ℤ → Bool
has_other half [] = false
has_other half (z ∷ zs) = not (is_sample half z) || has_other half zs

unfoldable pub left_and_right : ℕ → ℕ → List ℤ → List ℤ → Syntax FlacFault (List (List ℤ))
left_and_right code depth first second = do
  check fault.Range (has_other (half_of depth) (paired (left_of code) first second) || has_other (half_of depth) (paired (right_of code) first second))
  End (paired (left_of code) first second ∷ paired (right_of code) first second ∷ [])

-- a side channel has one more bit
abbrev pub first_depth : FlacShape → ℕ → ℕ
first_depth shape code = if code == 9 then shape.depth + 1 else shape.depth

abbrev pub second_depth : FlacShape → ℕ → ℕ
second_depth shape code = if code == 8 || code == 10 then shape.depth + 1 else shape.depth

-- the rows of samples, of one channel or two
unfoldable pub one_channel : FlacShape → Syntax FlacFault (List (List ℤ))
one_channel shape = do
  only ← subframe shape.depth shape.length
  End (only ∷ [])

unfoldable pub two_channels : FlacShape → ℕ → Syntax FlacFault (List (List ℤ))
two_channels shape code = do
  first ← subframe (first_depth shape code) shape.length
  second ← subframe (second_depth shape code) shape.length
  Choice (nat_lt code 8) (End (first ∷ second ∷ [])) (left_and_right code shape.depth first second)

unfoldable pub channels : FlacShape → ℕ → Syntax FlacFault (List (List ℤ))
channels shape code = Choice (shape.channels == 1) (one_channel shape) (two_channels shape code)

-- ---- 9.3

-- how many bits are missing to the next whole byte
abbrev pub missing : Bits → ℕ
missing bits = (8 - length bits % 8) % 8

unfoldable pub padding : Syntax FlacFault (Unit {0})
padding = do
  before ← seen
  bits ← field (Number (missing before)) (refuse fault.Padding (λ v. not (v == 0)) ∷ [])
  End tt

unfoldable pub footer : Syntax FlacFault (Unit {0})
footer = do
  before ← seen
  crc ← field (Number 16) (refuse fault.Crc16 (λ v. not (v == crc_16_of before)) ∷ [])
  End tt

unfoldable pub frame_end : Syntax FlacFault (Unit {0})
frame_end = do
  padding
  footer

-- the frame, and its rows of samples
unfoldable pub frame : FlacShape → Syntax FlacFault (List (List ℤ))
frame shape = do
  code ← header shape
  rows ← channels shape code
  frame_end
  End rows

-- ---- the bytes of one frame and no more

pub record IsFrame (shape : FlacShape) (bytes : List ℕ) (rows : List (List ℤ)) : Type 0 where
  pub fields : List FieldValue
  pub payload : Payload (frame shape) fields rows [] (all_bits bytes)

-- a frame with more bits after it
pub record HasTail (shape : FlacShape) (bytes : List ℕ) : Type 0 where
  pub fields : List FieldValue
  pub rows : List (List ℤ)
  pub tail : Bits
  pub more : 0 < length tail
  pub payload : Payload (frame shape) fields rows tail (all_bits bytes)

abbrev pub IsFault : FlacShape → List ℕ → FlacFault → Type 0
IsFault shape bytes f = Faults short (frame shape) [] f (all_bits bytes) ⊎ ((f ≡ fault.Tail) × HasTail shape bytes)

-- What a decoder answered, with what the rows hold after it.
abbrev pub IsDecoded : Result (Unit {0}) FlacFault → FlacShape → List ℕ → List (List ℤ) → Type 0
IsDecoded (Ok u) shape bytes rows = IsFrame shape bytes rows
IsDecoded (Err f) shape bytes rows = IsFault shape bytes f
