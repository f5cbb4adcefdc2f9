use Rattle.std.proofs.Common.{refl}
use Rattle.std.proofs.lemmas.List.{append-nil}
use Rattle.obu_data.proofs.Blocks.{known_bytes, block_reads, block_opaque, block_fails}
use Rattle.obu_data.proofs.parameter_block.read_from.Goals as goal

pub returns-in-Err-clause-reads : goal.returns-in-Err-clause-reads
returns-in-Err-clause-reads c =
    let start = c.whole-view.ensures in
    block_fails _ _ _ _ _ _ c.in-Err.error (rw start at c.in_ok-id.ensures.takes) c.in-Some.ensures.finds c.in-Err.ensures.reads

pub returns-in_default-clause-reads : goal.returns-in_default-clause-reads
returns-in_default-clause-reads c =
    let start = c.whole-view.ensures in (
      c.take_leb.new.self,
      block_opaque _ _ _ _ (rw start at c.in_ok-id.ensures.takes) c.in_default.ensures.finds,
      rw (append-nil c.rest.result.now, c.rest.ensures.bits) refl,
      rw (append-nil c.rest.result.now, c.rest.ensures.all) refl,
    )

pub returns-clause-reads : goal.returns-clause-reads
returns-clause-reads c =
    let start = c.whole-view.ensures in
    let e = c.in-Ok.ensures in
    let after = known_bytes c.in-Ok.content e.known in (
      c.content_of.new.view,
      block_reads _ _ _ _ _ _ _ (rw start at c.in_ok-id.ensures.takes) c.in-Some.ensures.finds e.reads.0,
      rw (after, c.rest-tail.ensures.bits) refl,
      rw (after, c.rest-tail.ensures.all) refl,
    )
