use Rattle.obu_codec_config.proofs.ReadingBack.{codec_back}
use Rattle.obu_codec_config.proofs.reading_back.written_codec_config_law.Goals as goal

pub returns : goal.returns
returns c = codec_back
