use Rattle.obu_header.specs.View.{head_of}
use Rattle.iamf_obu.specs.ContentWriting.{context}
use Rattle.iamf_obu.proofs.CanonicalObu.{read_is_short}
use Rattle.obu_tests.proofs.whole_obus.respelled.Goals as goal

pub write_obu_of-requires-clause-short : goal.write_obu_of-requires-clause-short
write_obu_of-requires-clause-short c =
    let view = c.in-Ok.view in
    let read = c.in-Ok-read_content.ensures in
    let bytes = c.as_bytes_below_256-payload.ensures in
    read_is_short (context 8 c.new-definitions.result) (head_of view.head) c.in-Ok-read_content.content view.payload.now _ (rw bytes.same at bytes.below) c.in-Ok.ensures.header read.reads
