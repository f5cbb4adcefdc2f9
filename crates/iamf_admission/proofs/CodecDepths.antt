-- How many bits the samples of a valid codec config of FLAC have.
use Rattle.std.proofs.Common.{◌≡◌, ℕ, ◌+◌, true, arith}
use Rattle.spec_syntax.specs.Payload.{IsValid}
use Rattle.spec_samples.specs.Lpcm.{is_depth}
use Rattle.spec_descriptors.specs.CodecConfig.{CodingFields, Lpcm, Flac, CodecConfigFields, codec_config}
use Rattle.spec_descriptors.specs.DescriptorFields.{codec_config_fields}
use Rattle.spec_descriptors.proofs.CodecNumbers.{HasDepth, valid_numbers}
use Rattle.spec_rules.specs.declared.codec.Codec.TheVariants as codec
use Rattle.spec_sequence.specs.ValueRole.{codec_role, role_of_codec}
use Rattle.iamf_rules.specs.Coding.{IsDepth}

-- the depths are 16, 24 and 32
few : (depth : ℕ) → is_depth depth ≡ true → IsDepth depth
few depth e = grind arith

of_coding : (id n : ℕ) (c : CodingFields) → HasDepth c → let role = codec_role id n c in role.codec ≡ codec.Flac → IsDepth role.depth
of_coding id n (Lpcm little depth rate) h = λ flac. absurd cc
of_coding id n (Flac info others) h = λ flac. few (info.depth_less_one + 1) h

pub valid_depth : (c : CodecConfigFields) → IsValid codec_config codec_config_fields c → let role = role_of_codec c in role.codec ≡ codec.Flac → IsDepth role.depth
valid_depth c valid =
    of_coding c.codec_config_id c.num_samples_per_frame c.coding (valid_numbers c valid).depth
