use Rattle.spec_descriptors.proofs.SequenceHeaderFields.{sequence_header_syntax}
use Rattle.obu_codec_config.specs.HeaderView.{view_header}
use Rattle.obu_codec_config.proofs.Answering.{answers_payload, payload_valid}
use Rattle.obu_codec_config.proofs.sequence_header.SequenceHeader.read.Goals as goal

pub returns-clause-exact : goal.returns-clause-exact
returns-clause-exact c = answers_payload sequence_header_syntax view_header (λ h. h.tail.now) c.read_from.result c.args.payload.now (rw c.whole.ensures at c.read_from.ensures.gives)

pub returns-clause-valid : goal.returns-clause-valid
returns-clause-valid c =
    let exact = answers_payload sequence_header_syntax view_header (λ h. h.tail.now) c.read_from.result c.args.payload.now (rw c.whole.ensures at c.read_from.ensures.gives) in
    payload_valid sequence_header_syntax view_header (λ h. h.tail.now) c.read_from.result c.args.payload.now exact
