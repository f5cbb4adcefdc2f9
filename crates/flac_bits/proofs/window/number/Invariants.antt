use Rattle.std.proofs.Common.{◌≡◌, take}
use Rattle.spec_bits.specs.Bits.{number_of, all_bits}
use Rattle.flac_bits.proofs.window.number.Given as goal

abbrev pub invariant-loop-byte : goal.invariant-loop-byte
invariant-loop-byte l = l.sum ≡ number_of (all_bits (take l.byte-index l.bytes))
