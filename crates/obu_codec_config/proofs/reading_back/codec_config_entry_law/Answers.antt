use Rattle.obu_codec_config.proofs.ReadingBack.{one_entry}
use Rattle.obu_codec_config.proofs.reading_back.codec_config_entry_law.Goals as goal

pub returns : goal.returns
returns c = one_entry
