use Rattle.std.proofs.Common.{◌≡◌, take}
use Rattle.spec_bits.specs.Bits.{all_bits, number_of}
use Rattle.iamf_bits.proofs.front.number.Given as goal

abbrev pub invariant-loop-byte : goal.invariant-loop-byte
invariant-loop-byte l = l.sum ≡ number_of (all_bits (take l.byte-index l.bytes))
