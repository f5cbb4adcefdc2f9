-- Where OBUs stand in bytes, and where bytes are refused.
use Rattle.std.specs.Prelude.{◌≡◌, ◌+◌, ◌-◌, ◌<◌, ◌≤◌, ℕ, List, [], ◌∷◌, length, take, drop, slice_get, Some}
use Rattle.spec_obu.specs.Header.{Header}
use Rattle.obu_header.specs.declared.view.ObuView.{ObuView}
use Rattle.obu_header.specs.View.{head_of}
use Rattle.spec_values.specs.declared.fault.Fault.{Fault}
use Rattle.spec_sequence.specs.Reading.{Entry, Admitted, Refuses}
use Rattle.iamf_bits.specs.declared.unread.Unread.{Unread}
use Rattle.iamf_bits.specs.declared.unread.Unread.TheVariants as unread
use Rattle.iamf_sequence.specs.declared.refusal.DecodeError.{DecodeError}
use Rattle.iamf_sequence.specs.declared.refusal.DecodeError.TheVariants as errors
use Rattle.iamf_sequence.specs.SequenceValue.{SequenceValue}

abbrev pub refused_at : ℕ → Fault → DecodeError
refused_at at fault = errors.Refused (record { at = at; fault = fault })

-- the OBU at this place is not taken in
abbrev pub not_taken_at : ℕ → Unread Fault → DecodeError
not_taken_at at (unread.Fault f) = refused_at at f
not_taken_at at (unread.Memory e) = errors.Memory e

-- the bytes are refused at this place for this fault, unless memory ran out
abbrev pub IsRefused : List ℕ → DecodeError → Type 0
IsRefused bytes (errors.Refused r) = Refuses bytes r.at r.fault
IsRefused bytes (errors.Memory e) = Unit {0}

-- memory ran out
abbrev pub IsMemory : DecodeError → Type 0
IsMemory (errors.Refused r) = ⊥
IsMemory (errors.Memory e) = Unit {0}

-- From a place to another the bytes are OBUs one after the other, with nothing between: each view is at its place, and the
-- bytes there are a header with these fields and then this payload (IAMF 1.0.0, "OBU Header Syntax and Semantics").
abbrev pub Tiles : List ℕ → ℕ → List ObuView → ℕ → Type 0
Tiles bytes from [] to = from ≡ to
Tiles bytes from (o ∷ os) to = (o.at ≡ from) × (from < o.end) × Header (head_of o.head) o.payload.now (take (o.end - from) (drop from bytes)) × Tiles bytes o.end os to

-- The view is of the OBU with this index. The bytes up to its place are the OBUs before it, those from there to its end
-- are a header with these fields and then this payload, and up to its end, which is within the bytes, they are these OBUs
-- and it.
pub record IsObuAt (v : SequenceValue) (i : ℕ) (o : ObuView) : Type 0 where
  pub entry : Entry
  pub there : slice_get v.entries i ≡ Some entry
  pub head : head_of o.head ≡ entry.value.head
  pub payload : o.payload.now ≡ entry.payload
  pub before : Admitted (take o.at v.bytes) (take i v.entries)
  pub onward : o.at < o.end
  pub within : o.end ≤ length v.bytes
  pub header : Header (head_of o.head) o.payload.now (take (o.end - o.at) (drop o.at v.bytes))
  pub after : Admitted (take o.end v.bytes) (take (i + 1) v.entries)
