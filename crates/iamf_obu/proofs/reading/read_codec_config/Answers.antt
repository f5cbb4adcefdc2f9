use Rattle.std.proofs.Common.{refl}
use Rattle.spec_descriptors.proofs.CodecConfigFields.{codec_config_syntax}
use Rattle.spec_values.specs.Content as said
use Rattle.iamf_obu.proofs.reading.read_codec_config.Goals as goal

pub returns-in-Ok-clause-reads : goal.returns-in-Ok-clause-reads
returns-in-Ok-clause-reads c = λ context kind.
    let e = c.in-Ok.ensures.exact in
    record {
      said_is = said.Codec e.0;
      tail = c.in-Ok.codec.tail.now;
      holds = (e.0, e.1, codec_config_syntax.valid _ e.0 e.2.spelling e.2.stands, refl, refl);
      bytes = c.in-Ok.ensures.tail;
      says = e.2;
    }
