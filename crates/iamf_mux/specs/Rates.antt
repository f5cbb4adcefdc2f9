-- The sample rate of a codec.
use Rattle.std.specs.Prelude.{ℕ, List, [], ◌∷◌, Option, Some, None}
use Rattle.spec_rules.specs.declared.codec_role.CodecRole.{CodecRole}
use Rattle.obu_codec_config.specs.declared.codec_config.Coding.{Coding}
use Rattle.obu_codec_config.specs.declared.codec_config.Coding.TheVariants.{Lpcm, Flac}

abbrev pub rate_in : Coding → ℕ
rate_in (Lpcm little depth rate) = rate
rate_in (Flac blocks depth rate) = rate

-- that of the first codec config
abbrev pub first_rate : List CodecRole → Option ℕ
first_rate [] = None
first_rate (c ∷ cs) = Some c.rate
