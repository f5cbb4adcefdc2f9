use Rattle.std.proofs.Common.{arith, refl, []}
use Rattle.mp4_file.proofs.Pieces.{piece_small, taken_small}
use Rattle.mp4_file.proofs.sizes.joined_len.Goals as goal

pub overflow_cast-total : goal.overflow_cast-total
overflow_cast-total c = omega (arith, c.requires, piece_small c.args.pieces.now c.loop-piece.piece-index (record { ref_ptr = (0, 0); now = [] }) refl)

pub overflow_add-total : goal.overflow_add-total
overflow_add-total c = omega (arith, c.requires, c.loop-piece.invariant, taken_small c.args.pieces.now c.loop-piece.piece-index (record { ref_ptr = (0, 0); now = [] }) (omega arith))
