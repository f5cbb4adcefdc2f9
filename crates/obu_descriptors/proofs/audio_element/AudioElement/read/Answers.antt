use Rattle.obu_descriptors.proofs.ElementAnswers.{answers_element, element_valid}
use Rattle.obu_descriptors.proofs.audio_element.AudioElement.read.Goals as goal

pub returns-clause-exact : goal.returns-clause-exact
returns-clause-exact c = answers_element c.args.frame_length c.read_fields.result c.args.payload.now (rw c.whole.ensures at c.read_fields.ensures.gives)

pub returns-clause-valid : goal.returns-clause-valid
returns-clause-valid c =
    let exact = answers_element c.args.frame_length c.read_fields.result c.args.payload.now (rw c.whole.ensures at c.read_fields.ensures.gives) in
    element_valid c.args.frame_length c.read_fields.result c.args.payload.now exact
