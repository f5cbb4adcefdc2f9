-- Reading a header from the front of a list of bytes: the head, the payload and the length of the whole, or the first fault
-- (IAMF 1.0.0, "OBU Header Syntax and Semantics"). What is read is what `Header` says, and the fault is the first of `Faults`.
use Rattle.std.specs.Prelude.{ℕ, ◌+◌, ◌-◌, ◌^◌, Bool, true, false, nat_lt, if◌then◌else◌, List, [], ◌∷◌, length, Option, Some, None, Result, Ok, Err}
use Rattle.spec_bits.specs.declared.FieldFault.{FieldFault}
use Rattle.spec_bits.specs.declared.FieldFault.TheVariants as field
use Rattle.spec_bits.specs.ByteReading.{◌>>=◌, leb_at, bytes_at}
use Rattle.spec_obu.specs.declared.HeaderFault.{HeaderFault}
use Rattle.spec_obu.specs.declared.HeaderFault.TheVariants.{Leb, ObuSize, Flags, HeaderSize, Cut}
use Rattle.spec_obu.specs.declared.trim.Trim.{Trim}
use Rattle.spec_obu.specs.Header.{Head, kind_of, is_redundant, is_trimmed, is_extended, flags_allowed}

unfoldable pub trim_at : Bool → List ℕ → Result (Option Trim × List ℕ) FieldFault
trim_at false bytes = Ok (None, bytes)
trim_at true bytes = do
  end ← leb_at bytes
  start ← leb_at end.1
  Ok (Some (record { end = end.0; start = start.0 }), start.1)

unfoldable pub extension_at : Bool → List ℕ → Result (Option (List ℕ) × List ℕ) FieldFault
extension_at false bytes = Ok (None, bytes)
extension_at true bytes = do
  size ← leb_at bytes
  text ← bytes_at size.0 size.1
  Ok (Some text.0, text.1)

-- the head and the payload, where the bytes after the size are these
unfoldable pub fields_at : ℕ → List ℕ → Result (Head × List ℕ) FieldFault
fields_at x bytes = do
  trim ← trim_at (is_trimmed x) bytes
  extension ← extension_at (is_extended x) trim.1
  Ok (record { kind = kind_of x; redundant = is_redundant x; trim = trim.0; extension = extension.0 }, extension.1)

-- a head, its payload and the length of the whole
abbrev pub Front : Type 0
Front = Head × List ℕ × ℕ

abbrev pub finish : ℕ → Result (Head × List ℕ) FieldFault → Result Front HeaderFault
finish len (Ok r) = Ok (r.0, r.1, len)
finish len (Err f) = Err HeaderSize

-- the fields within as many bytes after the size as it says
abbrev pub part : ℕ → ℕ → Result (List ℕ × List ℕ) FieldFault → Result Front HeaderFault
part x len (Ok p) = finish len (fields_at x p.0)
part x len (Err f) = Err Cut

-- the fault where the size cannot be read
abbrev pub unread : FieldFault → Bool → HeaderFault
unread field.Leb allowed = Leb
unread field.Short allowed = if allowed then Cut else Flags
unread field.Text allowed = if allowed then Cut else Flags

abbrev pub after_size : ℕ → List ℕ → Result (ℕ × List ℕ) FieldFault → Result Front HeaderFault
after_size x after (Err f) = Err (unread f (flags_allowed x))
after_size x after (Ok r) =
    let len = 1 + (length after - length r.1) + r.0 in
    if nat_lt (2 ^ 21) len then Err ObuSize
    else if flags_allowed x then part x len (bytes_at r.0 r.1)
    else Err Flags

unfoldable pub header_at : List ℕ → Result Front HeaderFault
header_at [] = Err Cut
header_at (x ∷ after) = after_size x after (leb_at after)
