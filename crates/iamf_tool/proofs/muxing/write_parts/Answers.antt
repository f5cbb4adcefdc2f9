use Rattle.std.proofs.Common.{ap}
use Rattle.mp4_file.specs.Slices.{joined}
use Rattle.iamf_tool.proofs.Waiting.{first_failed, second_failed, both_written}
use Rattle.iamf_tool.proofs.muxing.write_parts.Goals as goal

pub returns-in-Err : goal.returns-in-Err
returns-in-Err g c =
    first_failed (g.W.Sink.held c.args.out.now) (g.W.Sink.held c.put_piece.new.out) (g.W.Sink.faults c.args.out.now) (g.W.Sink.faults c.put_piece.new.out) c.args.waiting.now.items _ c.args.parts.now.front.items (joined c.args.parts.now.units.items) c.requires c.deref.ensures.value c.in-Err.ensures

pub returns-in-Err-put_pieces : goal.returns-in-Err-put_pieces
returns-in-Err-put_pieces g c =
    second_failed (g.W.Sink.held c.args.out.now) (g.W.Sink.held c.put_piece.new.out) (g.W.Sink.held c.put_pieces.new.out) (g.W.Sink.faults c.args.out.now) (g.W.Sink.faults c.put_piece.new.out) (g.W.Sink.faults c.put_pieces.new.out)
    c.args.waiting.now.items _ c.args.parts.now.front.items c.put_piece.new.waiting.items _ (joined c.args.parts.now.units.items) c.requires c.deref.ensures.value (ap joined c.deref-2.ensures.value) c.in-Ok.ensures c.in-Err-put_pieces.ensures

pub returns-in-Ok-put_pieces : goal.returns-in-Ok-put_pieces
returns-in-Ok-put_pieces g c =
    both_written c.finish.result (g.W.Sink.held c.args.out.now) (g.W.Sink.held c.put_piece.new.out) (g.W.Sink.held c.put_pieces.new.out) (g.W.Sink.held c.finish.new.out) (g.W.Sink.faults c.args.out.now) (g.W.Sink.faults c.put_piece.new.out) (g.W.Sink.faults c.put_pieces.new.out) (g.W.Sink.faults c.finish.new.out)
    c.args.waiting.now.items _ c.args.parts.now.front.items c.put_piece.new.waiting.items _ (joined c.args.parts.now.units.items) c.put_pieces.new.waiting.items c.requires c.deref.ensures.value (ap joined c.deref-2.ensures.value) c.in-Ok.ensures c.in-Ok-put_pieces.ensures c.finish.ensures
