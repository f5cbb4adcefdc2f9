use Rattle.std.proofs.Common.{arith}
use Rattle.spec_descriptors.proofs.CodecNumbers.{valid_numbers}
use Rattle.iamf_admission.proofs.role.role_of.Goals as goal

pub codec_role-requires : goal.codec_role-requires
codec_role-requires c =
    let valid = rw c.in-CodecConfig.is at c.requires.2 in
    let most = (valid_numbers valid.0 valid.2).length in
    omega (arith, valid.1.frame_length, most)
