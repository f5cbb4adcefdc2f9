-- The role of a codec config has its numbers.
use Rattle.std.proofs.Common.{◌≡◌, ◌≤◌, ℕ, refl}
use Rattle.std.specs.Prelude.{IsTrue}
use Rattle.spec_descriptors.specs.CodecConfig.{CodingFields, Lpcm, Flac, is_depth}
use Rattle.spec_descriptors.proofs.CodecNumbers.{HasDepth, HasRate}
use Rattle.spec_sequence.specs.ValueRole.{codec_role}

pub role_length : (id n : ℕ) (coding : CodingFields) → (codec_role id n coding).frame_length ≡ n
role_length id n (Lpcm is_little depth rate) = refl
role_length id n (Flac info others) = refl

pub role_depth : (id n : ℕ) (coding : CodingFields) → HasDepth coding → IsTrue (is_depth (codec_role id n coding).depth)
role_depth id n (Lpcm is_little depth rate) h = h
role_depth id n (Flac info others) h = h

pub role_rate : (id n : ℕ) (coding : CodingFields) → HasRate coding → (codec_role id n coding).rate ≤ 96000
role_rate id n (Lpcm is_little depth rate) h = h
role_rate id n (Flac info others) h = h
