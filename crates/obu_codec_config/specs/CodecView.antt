-- The entries that a codec config and its parts stand for.
use Rattle.std.specs.Prelude.{◌≡◌, ℕ, ◌+◌, List, ◌==◌}
use Rattle.spec_bits.specs.Bits.{all_bits}
use Rattle.spec_syntax.specs.Payload.{canon}
use Rattle.spec_descriptors.specs.CodecConfig.{StreamInfoFields, CodingFields, Lpcm, Flac, CodecConfigFields}
use Rattle.spec_descriptors.specs.DescriptorFields.{flac_fields}
use Rattle.obu_codec_config.specs.declared.stream_info.StreamInfo.{StreamInfo}
use Rattle.obu_codec_config.specs.declared.codec_config.Coding.{Coding}
use Rattle.obu_codec_config.specs.declared.codec_config.Coding.TheVariants as coding
use Rattle.obu_codec_config.specs.declared.codec_config.CodecConfig.{CodecConfig}

pub record StandsForInfo (i : StreamInfo) (info : StreamInfoFields) : Type 0 where
  pub is_last : i.is_last ≡ (info.is_last == 1)
  pub depth : i.depth ≡ info.depth_less_one + 1
  pub rate : i.rate ≡ info.sample_rate

-- the blocks are the bytes of all metadata blocks, the first with its depth and rate
pub record StandsForFlac (blocks : List ℕ) (depth rate : ℕ) (c : CodingFields) : Type 0 where
  pub info : StreamInfoFields
  pub others : List ℕ
  pub is : c ≡ Flac info others
  pub blocks_are : all_bits blocks ≡ canon (flac_fields info others)
  pub depth_is : depth ≡ info.depth_less_one + 1
  pub rate_is : rate ≡ info.sample_rate

abbrev pub StandsForCoding : Coding → CodingFields → Type 0
StandsForCoding (coding.Lpcm little depth rate) c = c ≡ Lpcm little depth rate
StandsForCoding (coding.Flac blocks depth rate) c = StandsForFlac blocks.now depth rate c

pub record StandsForCodec (r : CodecConfig) (c : CodecConfigFields) : Type 0 where
  pub id : r.id ≡ c.codec_config_id
  pub frame_length : r.frame_length ≡ c.num_samples_per_frame
  pub coding_is : StandsForCoding r.coding c.coding
