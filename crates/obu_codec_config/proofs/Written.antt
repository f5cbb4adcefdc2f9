-- What is written of a codec config is canonical.
use Rattle.std.proofs.Common.{◌≡◌, refl, sym, subst}
use Rattle.spec_syntax.specs.Payload.{canon}
use Rattle.spec_descriptors.specs.CodecConfig.{CodingFields, CodecConfigFields}
use Rattle.spec_descriptors.specs.DescriptorFields.{coding_fields, codec_id_of, codec_config_fields}
use Rattle.obu_codec_config.specs.declared.codec_config.Coding.{Coding}
use Rattle.obu_codec_config.specs.declared.codec_config.Coding.TheVariants as coding
use Rattle.obu_codec_config.specs.declared.codec_config.CodecConfig.{CodecConfig}
use Rattle.obu_codec_config.specs.CodecView.{StandsForCoding, StandsForCodec}
use Rattle.obu_codec_config.specs.CodecWriting.{codec_id_written, coding_written, config_written}

abbrev IsWritten : Coding → CodingFields → Type 0
IsWritten r c = (codec_id_written r ≡ codec_id_of c) × (coding_written r ≡ canon (coding_fields c))

coding_is_written : (r : Coding) (c : CodingFields) → StandsForCoding r c → IsWritten r c
coding_is_written (coding.Lpcm little depth rate) c h = subst (IsWritten (coding.Lpcm little depth rate)) (sym h) (refl, refl)
coding_is_written (coding.Flac blocks depth rate) c h = subst (IsWritten (coding.Flac blocks depth rate)) (sym h.is) (refl, h.blocks_are)

pub config_is_written : (r : CodecConfig) (c : CodecConfigFields) → StandsForCodec r c → config_written r ≡ canon (codec_config_fields c)
config_is_written r c h = let w = coding_is_written r.coding c.coding h.coding_is in rw (h.id, h.frame_length, w.0, w.1) refl
