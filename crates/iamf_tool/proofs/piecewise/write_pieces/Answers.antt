use Rattle.mp4_file.specs.Slices.{joined}
use Rattle.iamf_tool.proofs.Waiting.{alone_failed, alone_written}
use Rattle.iamf_tool.proofs.piecewise.write_pieces.Goals as goal

pub returns-in-Ok : goal.returns-in-Ok
returns-in-Ok g c =
    alone_written c.finish.result (g.W.Sink.held c.args.out.now) (g.W.Sink.held c.put_pieces.new.out) (g.W.Sink.held c.finish.new.out) (g.W.Sink.faults c.args.out.now) (g.W.Sink.faults c.put_pieces.new.out) (g.W.Sink.faults c.finish.new.out)
    c.args.waiting.now.items (joined c.args.pieces.now) c.put_pieces.new.waiting.items c.requires c.in-Ok.ensures c.finish.ensures

pub returns-in-Err : goal.returns-in-Err
returns-in-Err g c =
    alone_failed (g.W.Sink.held c.args.out.now) (g.W.Sink.held c.put_pieces.new.out) (g.W.Sink.faults c.args.out.now) (g.W.Sink.faults c.put_pieces.new.out) c.args.waiting.now.items (joined c.args.pieces.now) c.requires c.in-Err.ensures
