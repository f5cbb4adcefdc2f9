use Rattle.spec_syntax.specs.Payload.{canon}
use Rattle.spec_descriptors.specs.AudioElement.{audio_element}
use Rattle.spec_descriptors.specs.ElementFields.{audio_element_fields}
use Rattle.obu_descriptors.specs.ElementView.{view_element}
use Rattle.spec_syntax.proofs.Fitting.{stands_fit}
use Rattle.std.proofs.Common.{[]}
use Rattle.obu_descriptors.proofs.audio_element.AudioElement.write_fields.Goals as goal

pub put_fields-requires-clause-fits : goal.put_fields-requires-clause-fits
put_fields-requires-clause-fits c =
    let fields = view_element c.args.self.now in
    stands_fit (audio_element c.requires.0) [] (audio_element_fields fields) fields (canon (audio_element_fields fields)) c.requires.1
