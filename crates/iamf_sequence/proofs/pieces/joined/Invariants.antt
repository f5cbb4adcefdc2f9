use Rattle.std.proofs.Common.{◌≡◌, take}
use Rattle.iamf_sequence.specs.PartBytes.{bytes_of}
use Rattle.iamf_sequence.proofs.pieces.joined.Given as goal

abbrev pub invariant-loop-part : goal.invariant-loop-part
invariant-loop-part l = l.bytes.items ≡ bytes_of (take l.part-index l.parts)
