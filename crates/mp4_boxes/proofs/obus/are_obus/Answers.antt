use Rattle.std.proofs.Common.{sym, ◌∙◌, arith}
use Rattle.obu_header.specs.View.{head_of}
use Rattle.mp4_boxes.specs.Holding.{may_hold}
use Rattle.spec_boxes.proofs.ObuLists.{rest_start, rest_next}
use Rattle.mp4_boxes.proofs.obus.are_obus.Goals as goal

pub loop-at-init : goal.loop-at-init
loop-at-init c = (omega arith, rest_start (may_hold c.args.holder) c.args.bytes.now)

pub loop-at-preserved : goal.loop-at-preserved
loop-at-preserved c =
    let o = c.in-Ok.obu in
    (c.in-Ok.ensures.within, sym (rest_next (may_hold c.args.holder) c.args.bytes.now c.loop-at.at o.end (head_of o.head) o.payload.now c.in-Ok.ensures.begins c.loop-at-test.true c.in-Ok.ensures.exact (sym c.may.ensures ∙ c.if-not-may.false)) ∙ c.loop-at.invariant.1)
