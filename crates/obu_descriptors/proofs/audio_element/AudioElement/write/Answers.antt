use Rattle.std.proofs.Common.{[], refl}
use Rattle.spec_syntax.specs.Payload.{canon}
use Rattle.spec_descriptors.specs.AudioElement.{audio_element}
use Rattle.spec_descriptors.specs.ElementFields.{audio_element_fields}
use Rattle.obu_descriptors.specs.ElementView.{view_element}
use Rattle.spec_syntax.proofs.Fitting.{stands_fit}
use Rattle.obu_timing.proofs.Spelling.{bytes_spelled}
use Rattle.obu_descriptors.proofs.ElementAnswers.{reads_back}
use Rattle.obu_descriptors.proofs.audio_element.AudioElement.write.Goals as goal

pub put_fields-requires-clause-fits : goal.put_fields-requires-clause-fits
put_fields-requires-clause-fits c =
    let fields = view_element c.args.self.now in
    stands_fit (audio_element c.requires.0) [] (audio_element_fields fields) fields (canon (audio_element_fields fields)) c.requires.1

pub returns-clause-back : goal.returns-clause-back
returns-clause-back c = λ frame_length valid.
    reads_back frame_length c.args.self.now c.finish.result.items
    (rw (c.finish.ensures, c.in_ok-put_bytes.ensures.bits, c.in_ok-put_fields.ensures.bits, c.new-out.ensures.bits, bytes_spelled) refl) valid
