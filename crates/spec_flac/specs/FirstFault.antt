-- The first fault of a frame, found by reading it: that of a field or a test, or that bytes follow.
use Rattle.std.specs.Prelude.{ℕ, List, [], ◌∷◌, Option, Some, None, Result, Ok, Err}
use Rattle.spec_bits.specs.Bits.{Bits}
use Rattle.spec_bits.specs.Cursor.{Cursor, bits_left}
use Rattle.spec_syntax.specs.Reading.{read, start_of}
use Rattle.spec_flac.specs.declared.fault.FlacFault.{FlacFault}
use Rattle.spec_flac.specs.declared.fault.FlacFault.TheVariants as fault
use Rattle.spec_flac.specs.declared.shape.FlacShape.{FlacShape}
use Rattle.spec_flac.specs.Faults.{short}
use Rattle.spec_flac.specs.Frame.{frame}

abbrev pub tail_fault : Bits → Option FlacFault
tail_fault [] = None
tail_fault (b ∷ tail) = Some fault.Tail

abbrev pub outcome_fault : {A : Type 0} → Result (A × Cursor) FlacFault → Option FlacFault
outcome_fault (Ok r) = tail_fault (bits_left r.1)
outcome_fault (Err f) = Some f

-- none where the bytes are one frame of the shape and no more
unfoldable pub first_fault : FlacShape → List ℕ → Option FlacFault
first_fault shape bytes = outcome_fault (read short (frame shape) (start_of bytes))
