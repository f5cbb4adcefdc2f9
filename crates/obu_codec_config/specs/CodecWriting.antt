-- The canonical bits of a codec config, by its parts.
use Rattle.std.specs.Prelude.{ℕ, pos, ◌++◌}
use Rattle.spec_bits.specs.Bits.{Bits, all_bits}
use Rattle.spec_bits.specs.Form.{Number, Signed, Leb128, canonical}
use Rattle.spec_syntax.specs.Payload.{canon}
use Rattle.spec_descriptors.specs.DescriptorFields.{lpcm_fields}
use Rattle.obu_codec_config.specs.declared.codec_config.Coding.{Coding}
use Rattle.obu_codec_config.specs.declared.codec_config.Coding.TheVariants as coding
use Rattle.obu_codec_config.specs.declared.codec_config.CodecConfig.{CodecConfig}

abbrev pub codec_id_written : Coding → ℕ
codec_id_written (coding.Lpcm little depth rate) = 0x6970636d
codec_id_written (coding.Flac blocks depth rate) = 0x664c6143

abbrev pub coding_written : Coding → Bits
coding_written (coding.Lpcm little depth rate) = canon (lpcm_fields little depth rate)
coding_written (coding.Flac blocks depth rate) = all_bits blocks.now

-- without the tail
abbrev pub config_written : CodecConfig → Bits
config_written r =
    canonical Leb128 r.id ++ (canonical (Number 32) (codec_id_written r.coding) ++ (canonical Leb128 r.frame_length ++ (canonical (Signed 16) (pos 0) ++ coding_written r.coding)))
