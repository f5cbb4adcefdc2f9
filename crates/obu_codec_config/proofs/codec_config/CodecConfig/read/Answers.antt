use Rattle.spec_descriptors.proofs.CodecConfigFields.{codec_config_syntax}
use Rattle.obu_codec_config.specs.CodecView.{StandsForCodec}
use Rattle.obu_codec_config.proofs.Answering.{answers_entry, entry_valid}
use Rattle.obu_codec_config.proofs.codec_config.CodecConfig.read.Goals as goal

pub returns-clause-exact : goal.returns-clause-exact
returns-clause-exact c = answers_entry codec_config_syntax StandsForCodec (λ r. r.tail.now) c.read_from.result c.args.payload.now (rw c.whole.ensures at c.read_from.ensures.gives)

pub returns-clause-valid : goal.returns-clause-valid
returns-clause-valid c =
    let exact = answers_entry codec_config_syntax StandsForCodec (λ r. r.tail.now) c.read_from.result c.args.payload.now (rw c.whole.ensures at c.read_from.ensures.gives) in
    entry_valid codec_config_syntax StandsForCodec (λ r. r.tail.now) c.read_from.result c.args.payload.now exact
