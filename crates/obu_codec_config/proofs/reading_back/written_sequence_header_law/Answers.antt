use Rattle.obu_codec_config.proofs.ReadingBack.{header_back}
use Rattle.obu_codec_config.proofs.reading_back.written_sequence_header_law.Goals as goal

pub returns : goal.returns
returns c = header_back
