use Rattle.iamf_tool.proofs.Waiting.{writes_after}
use Rattle.iamf_tool.proofs.piecewise.put_piece.Goals as goal

pub returns : goal.returns
returns g c =
    writes_after c.write_all.result (g.W.Sink.held c.args.out.now) (g.W.Sink.held c.write_waiting.new.out) (g.W.Sink.held c.write_all.new.sink) (g.W.Sink.faults c.args.out.now) (g.W.Sink.faults c.write_waiting.new.out) (g.W.Sink.faults c.write_all.new.sink)
    c.args.waiting.now.items c.args.piece.now c.write_waiting.new.waiting.items c.in_ok-write_waiting.ensures.written c.in_ok-write_waiting.ensures.none c.write_all.ensures.all c.write_all.ensures.front c.write_all.ensures.cause
