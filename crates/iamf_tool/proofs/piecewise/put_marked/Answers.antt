use Rattle.std.proofs.Common.{[], ◌∷◌}
use Rattle.iamf_tool.proofs.Waiting.{passes_more, failed_before}
use Rattle.iamf_tool.proofs.piecewise.put_marked.Goals as goal

pub returns-in-Ok : goal.returns-in-Ok
returns-in-Ok g c =
    passes_more c.put_piece-in-Ok.result (g.W.Sink.held c.args.out.now) (g.W.Sink.held c.put_piece.new.out) (g.W.Sink.held c.put_piece-in-Ok.new.out) (g.W.Sink.faults c.args.out.now) (g.W.Sink.faults c.put_piece.new.out) (g.W.Sink.faults c.put_piece-in-Ok.new.out)
    c.args.waiting.now.items (0x20 ∷ 0 ∷ []) c.put_piece.new.waiting.items c.args.sample.now c.put_piece-in-Ok.new.waiting.items c.in-Ok.ensures c.put_piece-in-Ok.ensures

pub returns-in-Err : goal.returns-in-Err
returns-in-Err g c =
    failed_before (g.W.Sink.held c.args.out.now) (g.W.Sink.held c.put_piece.new.out) (g.W.Sink.faults c.args.out.now) (g.W.Sink.faults c.put_piece.new.out) c.args.waiting.now.items (0x20 ∷ 0 ∷ []) c.args.sample.now c.in-Err.ensures
