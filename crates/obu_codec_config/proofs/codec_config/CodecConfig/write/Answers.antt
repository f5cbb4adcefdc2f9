use Rattle.std.proofs.Common.{refl}
use Rattle.obu_timing.proofs.Spelling.{bytes_spelled}
use Rattle.obu_codec_config.proofs.Written.{config_is_written}
use Rattle.obu_codec_config.proofs.codec_config.CodecConfig.write.Goals as goal

pub returns : goal.returns
returns c = λ fields stands.
    rw (c.finish.ensures, c.in_ok-put_bytes.ensures.bits, c.in_ok-put_fields.ensures.bits, c.new-out.ensures.bits, bytes_spelled, config_is_written c.args.self.now fields stands) refl
