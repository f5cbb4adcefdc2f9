use Rattle.std.proofs.Common.{◌≡◌, ◌++◌, take}
use Rattle.mp4_file.specs.Slices.{joined}
use Rattle.mp4_file.proofs.fields.put_pieces.Given as goal

abbrev pub invariant-loop-piece : goal.invariant-loop-piece
invariant-loop-piece l = l.out.items ≡ l.fn.out.items ++ joined (take l.piece-index l.pieces)
