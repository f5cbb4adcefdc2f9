use Rattle.std.proofs.Common.{length}
use Rattle.spec_descriptors.proofs.ElementCounts.{valid_counts, channels_fit}
use Rattle.spec_descriptors.proofs.element_laws.substream_channels_law.Goals as goal

pub returns-clause-length : goal.returns-clause-length
returns-clause-length c = λ frame_length element channels valid e.
    channels_fit (length element.audio_substream_ids) element.config channels (valid_counts frame_length element valid) e
