use Rattle.std.proofs.Common.{refl, arith}
use Rattle.spec_syntax.proofs.Reading.{each_goes_on, each_done}
use Rattle.spec_descriptors.specs.AudioElement.{substream_id_in}
use Rattle.obu_descriptors.proofs.audio_element.read_substreams.Goals as goal

pub loop-preserved : goal.loop-preserved
loop-preserved c = (
  c.in_ok-id.ensures.on_byte,
  omega (arith, c.in_ok-push.ensures.len),
  rw c.in_ok-push.ensures.ok (each_goes_on _ substream_id_in _ _ _ _ _ _ _ c.loop-test.true (rw c.in_ok-id.ensures.takes refl) c.loop.invariant.2),
)

pub returns-clause-reads : goal.returns-clause-reads
returns-clause-reads c = (each_done _ substream_id_in _ _ _ _ _ c.loop-test.false c.loop.invariant.2, c.loop.invariant.0)
