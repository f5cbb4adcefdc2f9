use Rattle.std.proofs.Common.{take}
use Rattle.mp4_file.specs.Slices.{joined}
use Rattle.iamf_tool.specs.Ends.{side}
use Rattle.iamf_tool.specs.Waiting.{Passed}
use Rattle.iamf_tool.proofs.piecewise.put_pieces.Given as goal

abbrev pub invariant-loop-piece : goal.invariant-loop-piece
invariant-loop-piece g l = Passed l.fn.waiting.items (joined (take l.piece-index l.pieces)) l.waiting.items (side g.W.Sink.held g.W.Sink.faults l.fn.out l.out)
