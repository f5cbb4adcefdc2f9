use Rattle.std.proofs.Common.{◌+◌, take, drop, arith}
use Rattle.mp4_file.specs.Slices.{joined}
use Rattle.iamf_tool.proofs.Waiting.{passed_more, failed_among, piece_more, pieces_around}
use Rattle.iamf_tool.proofs.piecewise.put_pieces.Goals as goal

pub returns-in-Err : goal.returns-in-Err
returns-in-Err g c =
    let us = c.args.pieces.now in
    let i = c.loop-piece.piece-index in
    failed_among (g.W.Sink.held c.args.out.now) (g.W.Sink.held c.loop-piece.out) (g.W.Sink.held c.put_piece.new.out) (g.W.Sink.faults c.args.out.now) (g.W.Sink.faults c.loop-piece.out) (g.W.Sink.faults c.put_piece.new.out)
    c.args.waiting.now.items (joined (take i us)) c.loop-piece.waiting.items _ (joined (drop (i + 1) us)) (joined us) c.loop-piece.invariant c.in-Err.ensures (pieces_around us i _ (omega (arith, c.loop-piece-test.true, c.loop-piece.auto.piece-index-end)))

pub loop-piece-preserved : goal.loop-piece-preserved
loop-piece-preserved g c =
    let us = c.args.pieces.now in
    let i = c.loop-piece.piece-index in
    piece_more _ us i _ c.args.waiting.now.items c.put_piece.new.waiting.items (omega (arith, c.loop-piece-test.true, c.loop-piece.auto.piece-index-end))
    (passed_more (g.W.Sink.held c.args.out.now) (g.W.Sink.held c.loop-piece.out) (g.W.Sink.held c.put_piece.new.out) (g.W.Sink.faults c.args.out.now) (g.W.Sink.faults c.loop-piece.out) (g.W.Sink.faults c.put_piece.new.out)
    c.args.waiting.now.items (joined (take i us)) c.loop-piece.waiting.items _ c.put_piece.new.waiting.items c.loop-piece.invariant c.in-Ok.ensures)
