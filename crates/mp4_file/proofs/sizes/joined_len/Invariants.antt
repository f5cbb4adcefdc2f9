use Rattle.std.proofs.Common.{◌≡◌, take, length}
use Rattle.mp4_file.specs.Slices.{joined}
use Rattle.mp4_file.proofs.sizes.joined_len.Given as goal

abbrev pub invariant-loop-piece : goal.invariant-loop-piece
invariant-loop-piece l = l.total ≡ length (joined (take l.piece-index l.pieces))
