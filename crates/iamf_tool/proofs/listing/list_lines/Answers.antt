use Rattle.obu_header.specs.View.{head_of}
use Rattle.iamf_tool.proofs.Listed.{goes_on, ends}
use Rattle.iamf_tool.proofs.listing.list_lines.Goals as goal

pub loop-at-preserved : goal.loop-at-preserved
loop-at-preserved c =
    goes_on c.args.bytes.now c.loop-at.text.items c.push_line.new.text.items c.loop-at.at c.in-Ok.obu.end (head_of c.in-Ok.obu.head) c.in-Ok.obu.payload.now
    c.loop-at.invariant c.in-Ok.ensures.begins c.in-Ok.ensures.within c.in-Ok.ensures.header (rw c.in-Ok.ensures.at at c.in_ok-push_line.ensures)

pub returns : goal.returns
returns c = ends c.args.bytes.now c.loop-at.text.items c.loop-at.at c.loop-at.invariant c.loop-at-test.false
