-- Frames that a player can decode, and rows that hold their samples.
use Rattle.std.specs.Prelude.{◌≡◌, ℕ, ◌<◌, ◌≤◌, ◌^◌, ◌⊎◌, IsTrue, ℤ, pos, List, [], length, slice_index_or, unsigned_abs}
use Rattle.spec_samples.specs.Lpcm.{frame_bytes, is_depth, sample}
use Rattle.spec_flac.specs.declared.shape.FlacShape.{FlacShape}
use Rattle.spec_flac.specs.Frame.{IsFrame}
use Rattle.spec_descriptors.specs.CodecConfig.{CodecConfigFields}
use Rattle.spec_sequence.specs.Parts.{UnitValue}
use Rattle.spec_play.specs.CodedSamples.{frame_sample, flac_rows, stream_bytes}
use Rattle.iamf_bits.specs.Rows.{Rows, sample_of}
use Rattle.obu_codec_config.specs.declared.codec_config.Coding.{Coding}
use Rattle.obu_codec_config.specs.declared.codec_config.Coding.TheVariants as coding

abbrev pub no_rows : Rows
no_rows = record { channels = 0; length = 0; samples = [] }

-- a substream has one channel or two
abbrev pub IsStream : ℕ → Type 0
IsStream channels = (channels ≡ 1) ⊎ (channels ≡ 2)

-- ---- by what the code keeps of the codec config

abbrev pub shape_by : (depth rate channels frame_length : ℕ) → FlacShape
shape_by depth rate channels frame_length = record { depth = depth; rate = rate; channels = channels; length = frame_length }

-- the bytes are a frame of so many samples in each of so many channels
abbrev pub IsFrameBy : Coding → (frame_length channels : ℕ) → List ℕ → Type 0
IsFrameBy (coding.Lpcm little depth rate) frame_length channels bytes = IsTrue (is_depth depth) × (length bytes ≡ frame_bytes frame_length channels depth)
IsFrameBy (coding.Flac blocks depth rate) frame_length channels bytes =
    IsTrue (is_depth depth) × IsStream channels × ((rows : List (List ℤ)) × IsFrame (shape_by depth rate channels frame_length) bytes rows)

abbrev pub sample_by : Coding → (frame_length channels : ℕ) → List ℕ → (n c : ℕ) → ℤ
sample_by (coding.Lpcm little depth rate) frame_length channels bytes n c = sample bytes little depth channels n c
sample_by (coding.Flac blocks depth rate) frame_length channels bytes n c = slice_index_or (slice_index_or (flac_rows (shape_by depth rate channels frame_length) bytes) c []) n (pos 0)

-- ---- by the codec config itself

-- the rows hold the samples of the substream's frame, each of 32 bits
pub record Holds (codec : CodecConfigFields) (unit : UnitValue) (substream : ℕ) (rows : Rows) : Type 0 where
  pub samples : (c n : ℕ) → c < rows.channels → n < rows.length → sample_of rows c n ≡ frame_sample codec rows.channels (stream_bytes unit substream) n c
  pub small : (c n : ℕ) → c < rows.channels → n < rows.length → unsigned_abs (sample_of rows c n) ≤ 2 ^ 31
