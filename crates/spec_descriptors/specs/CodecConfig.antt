-- IAMF 1.0.0, "Codec Config OBU Syntax and Semantics", "LPCM Specific" and "FLAC Specific";
-- RFC 9639, sections 8.1 (metadata block header) and 8.2 (streaminfo).
use Rattle.std.specs.Prelude.{ℕ, ℤ, pos, negsuc, ◌+◌, Bool, true, not, ◌&&◌, ◌||◌, List, [], ◌∷◌, nat_lt, ◌==◌}
use Rattle.spec_bits.specs.Form.{Number, Signed, Leb128, Bytes, Blocks}
use Rattle.spec_syntax.specs.Syntax.{Syntax, End, Choice, field, refuse, ◌>>=◌}
pub use Rattle.spec_samples.specs.Lpcm.{is_depth}
use Rattle.spec_descriptors.specs.declared.fault.DescriptorFault.{DescriptorFault}
use Rattle.spec_descriptors.specs.declared.fault.DescriptorFault.TheVariants as fault

-- the fields of the first metadata block, without its type and its length, which are 0 and 34
pub record StreamInfoFields : Type 0 where
  pub is_last : ℕ
  pub min_block_size : ℕ
  pub max_block_size : ℕ
  pub min_frame_size : ℕ
  pub max_frame_size : ℕ
  pub sample_rate : ℕ
  pub channels_less_one : ℕ
  pub depth_less_one : ℕ
  pub total_samples_high : ℕ
  pub total_samples_low : ℕ
  pub digest : List ℕ

-- the decoder config: LPCM's byte order, depth and rate; FLAC's first metadata block and the bytes of those after it
pub data CodingFields : Type 0 where
  Lpcm : Bool → ℕ → ℕ → CodingFields
  Flac : StreamInfoFields → List ℕ → CodingFields

pub record CodecConfigFields : Type 0 where
  pub codec_config_id : ℕ
  pub num_samples_per_frame : ℕ
  pub coding : CodingFields

-- the sample rates of this profile
abbrev pub is_rate : ℕ → Bool
is_rate n = n == 16000 || n == 32000 || n == 44100 || n == 48000 || n == 96000

abbrev pub is_not_zero : ℤ → Bool
is_not_zero (pos n) = not (n == 0)
is_not_zero (negsuc n) = true

unfoldable pub lpcm_config : Syntax DescriptorFault CodingFields
lpcm_config = do
  sample_format_flags ← field (Number 8) (refuse fault.LpcmConfig (λ n. nat_lt 1 n) ∷ [])
  sample_size ← field (Number 8) (refuse fault.LpcmConfig (λ n. not (is_depth n)) ∷ [])
  sample_rate ← field (Number 32) (refuse fault.LpcmConfig (λ n. not (is_rate n)) ∷ [])
  End (Lpcm (sample_format_flags == 1) sample_size sample_rate)

-- Block and frame sizes, channels, the number of samples and the digest are not tested.
-- The number of samples, of 36 bits, stands here as its high 4 bits and its low 32.
unfoldable pub stream_info : Syntax DescriptorFault StreamInfoFields
stream_info = do
  is_last ← field (Number 1) []
  block_type ← field (Number 7) []
  _ ← field (Number 24) (refuse fault.FlacConfig (λ block_length. not (block_type == 0 && block_length == 34)) ∷ [])
  min_block_size ← field (Number 16) []
  max_block_size ← field (Number 16) []
  min_frame_size ← field (Number 24) []
  max_frame_size ← field (Number 24) []
  sample_rate ← field (Number 20) (refuse fault.FlacConfig (λ n. not (is_rate n)) ∷ [])
  channels_less_one ← field (Number 3) []
  depth_less_one ← field (Number 5) (refuse fault.FlacConfig (λ n. not (is_depth (n + 1))) ∷ [])
  total_samples_high ← field (Number 4) []
  total_samples_low ← field (Number 32) []
  digest ← field (Bytes 16) []
  End (record {
    is_last = is_last;
    min_block_size = min_block_size;
    max_block_size = max_block_size;
    min_frame_size = min_frame_size;
    max_frame_size = max_frame_size;
    sample_rate = sample_rate;
    channels_less_one = channels_less_one;
    depth_less_one = depth_less_one;
    total_samples_high = total_samples_high;
    total_samples_low = total_samples_low;
    digest = digest;
  })

unfoldable pub flac_config : Syntax DescriptorFault CodingFields
flac_config = do
  info ← stream_info
  others ← Choice (info.is_last == 1) (End []) (field Blocks [])
  End (Flac info others)

unfoldable pub codec_config : Syntax DescriptorFault CodecConfigFields
codec_config = do
  codec_config_id ← field Leb128 []
  codec_id ← field (Number 32) (
      refuse fault.Opus (λ n. n == 0x4f707573)
      ∷ refuse fault.Aac (λ n. n == 0x6d703461)
      ∷ refuse fault.CodecOther (λ n. not (n == 0x664c6143 || n == 0x6970636d))
      ∷ [])
  num_samples_per_frame ← field Leb128 (refuse fault.FrameLength (λ n. n == 0 || nat_lt 65535 n) ∷ [])
  _ ← field (Signed 16) (refuse fault.Roll (λ audio_roll_distance. is_not_zero audio_roll_distance) ∷ [])
  coding ← Choice (codec_id == 0x664c6143) flac_config lpcm_config
  End (record { codec_config_id = codec_config_id; num_samples_per_frame = num_samples_per_frame; coding = coding })
