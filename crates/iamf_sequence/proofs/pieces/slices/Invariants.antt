use Rattle.std.proofs.Common.{◌≡◌, ℕ, List, take}
use Rattle.std.specs.Borrow.{Bor}
use Rattle.std.specs.List.{flat_map}
use Rattle.iamf_sequence.specs.PartBytes.{bytes_of}
use Rattle.iamf_sequence.proofs.pieces.slices.Given as goal

abbrev pub invariant-loop-part : goal.invariant-loop-part
invariant-loop-part l = flat_map (λ (piece : Bor (List ℕ)). piece.now) l.pieces.items ≡ bytes_of (take l.part-index l.parts)
