use Rattle.spec_descriptors.proofs.CodecConfigFields.{codec_config_syntax}
use Rattle.spec_descriptors.proofs.laws.codec_config_law.Goals as goal

pub returns : goal.returns
returns c = codec_config_syntax
