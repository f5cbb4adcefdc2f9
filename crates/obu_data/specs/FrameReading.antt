-- What reading an audio frame answers.
use Rattle.std.specs.Prelude.{◌≡◌, ℕ, [], Option, Some, None, Result, Ok, Err}
use Rattle.spec_bits.specs.declared.FieldFault.{FieldFault}
use Rattle.spec_bits.specs.Bits.{all_bits}
use Rattle.spec_bits.specs.Cursor.{Cursor, bits_left, bytes_left}
use Rattle.spec_syntax.specs.Payload.{Payload, Faults}
use Rattle.spec_blocks.specs.AudioFrame.{audio_frame}
use Rattle.spec_blocks.specs.BlockFieldLists.{frame_fields}
use Rattle.spec_obu.specs.declared.trim.Trim.{Trim}
use Rattle.obu_header.specs.declared.view.ObuView.{ObuView}
use Rattle.obu_data.specs.declared.frame.FrameView.{FrameView}

-- the header's trims, or none
abbrev pub trim_or_none : Option Trim → Trim
trim_or_none None = record { end = 0; start = 0 }
trim_or_none (Some trim) = trim

-- The payload is the id of the substream, where the type does not give it, and the frame; or this is the id's fault.
abbrev pub SpellsFrame : ObuView → Result FrameView FieldFault → Type 0
SpellsFrame obu (Ok frame) = Payload (audio_frame obu.head.kind) (frame_fields obu.head.kind frame.substream) frame.substream (all_bits frame.bytes.now) (all_bits obu.payload.now)
SpellsFrame obu (Err f) = Faults (λ e. e) (audio_frame obu.head.kind) [] f (all_bits obu.payload.now)

-- the same by reading: the substream and all bytes after it, or the fault of the id
abbrev pub ReadsFrame : Result FrameView FieldFault → Result (ℕ × Cursor) FieldFault → Type 0
ReadsFrame (Ok frame) read = (c : Cursor) × (read ≡ Ok (frame.substream, c)) × (bits_left c ≡ all_bits frame.bytes.now) × (bytes_left c ≡ frame.bytes.now)
ReadsFrame (Err f) read = read ≡ Err f
