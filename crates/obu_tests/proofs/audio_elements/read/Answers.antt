use Rattle.obu_descriptors.proofs.ElementAnswers.{read_valid}
use Rattle.obu_tests.proofs.audio_elements.read.Goals as goal

pub returns : goal.returns
returns g c = (c.args.frame_length, read_valid c.args.frame_length c.in-Ok.element c.args.payload.now c.in-Ok.ensures.exact)
