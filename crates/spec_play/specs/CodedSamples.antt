-- The coded samples of an element at one tick: those of each channel of each of its substreams, in their order (IAMF 1.0.0,
-- "LPCM Specific", "FLAC Specific" and "Audio Frame OBU Syntax and Semantics").
use Rattle.std.specs.Prelude.{ℕ, ◌==◌, ℤ, pos, List, [], map, find, Option, Some, None, Result, Ok, Err, slice_index_or}
use Rattle.std.specs.List.{flat_map, range_with_len}
use Rattle.spec_bits.specs.Cursor.{Cursor}
use Rattle.spec_syntax.specs.Reading.{read, start_of}
use Rattle.spec_samples.specs.Lpcm.{sample}
use Rattle.spec_flac.specs.declared.fault.FlacFault.{FlacFault}
use Rattle.spec_flac.specs.declared.shape.FlacShape.{FlacShape}
use Rattle.spec_flac.specs.Faults.{short}
use Rattle.spec_flac.specs.Frame.{frame}
use Rattle.spec_descriptors.specs.CodecConfig.{CodingFields, Lpcm, Flac, CodecConfigFields}
use Rattle.spec_descriptors.specs.AudioElement.{AudioElementFields, substream_channels_of}
use Rattle.spec_rules.specs.Descriptors.{pairs_in}
use Rattle.spec_rules.specs.Rules.{flac_shape}
use Rattle.spec_sequence.specs.ValueRole.{role_of_codec}
use Rattle.spec_sequence.specs.Parts.{FrameValue, UnitValue}

-- the rows of samples of a FLAC frame; bytes that are no frame have none
abbrev pub rows_read : Result (List (List ℤ) × Cursor) FlacFault → List (List ℤ)
rows_read (Ok r) = r.0
rows_read (Err f) = []

unfoldable pub flac_rows : FlacShape → List ℕ → List (List ℤ)
flac_rows shape bytes = rows_read (read short (frame shape) (start_of bytes))

-- sample n of channel c of a frame
abbrev pub frame_sample : CodecConfigFields → (channels : ℕ) → (bytes : List ℕ) → (n c : ℕ) → ℤ
frame_sample codec channels bytes n c = coded_by codec.coding
  where
    coded_by : CodingFields → ℤ
    coded_by (Lpcm is_little depth rate) = sample bytes is_little depth channels n c
    coded_by (Flac info others) = slice_index_or (slice_index_or (flac_rows (flac_shape (role_of_codec codec) channels) bytes) c []) n (pos 0)

-- the codec's bytes of the frame of a substream; a unit has a frame of each
abbrev pub bytes_of : Option FrameValue → List ℕ
bytes_of None = []
bytes_of (Some frame) = frame.bytes

abbrev pub stream_bytes : UnitValue → ℕ → List ℕ
stream_bytes unit substream = bytes_of (find (λ frame. frame.substream == substream) unit.frames)

-- sample n of each channel of a substream
abbrev pub stream_samples : CodecConfigFields → UnitValue → ℕ → ℕ × ℕ → List ℤ
stream_samples codec unit n (substream, channels) = map (frame_sample codec channels (stream_bytes unit substream) n) (range_with_len 0 channels)

-- those of an element, in coded order
unfoldable pub coded_samples : CodecConfigFields → UnitValue → AudioElementFields → ℕ → List ℤ
coded_samples codec unit element n = flat_map (stream_samples codec unit n) (pairs_in element.audio_substream_ids (substream_channels_of element.config))
