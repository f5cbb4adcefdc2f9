use Rattle.spec_blocks.proofs.BlockFields.{frame_syntax}
use Rattle.iamf_obu.proofs.reading.read_audio_frame.Goals as goal

pub returns-in-Ok-clause-valid : goal.returns-in-Ok-clause-valid
returns-in-Ok-clause-valid c = λ context. let h = c.in-Ok.ensures.spells in (frame_syntax c.args.view.now.head.kind).valid _ _ h.spelling h.stands
