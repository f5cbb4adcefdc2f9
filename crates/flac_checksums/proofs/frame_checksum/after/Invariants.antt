use Rattle.std.proofs.Common.{◌≡◌, take}
use Rattle.spec_bits.specs.Bits.{bits_of, all_bits}
use Rattle.spec_checksums.specs.Polynomials.{poly_16, steps}
use Rattle.flac_checksums.proofs.frame_checksum.after.Given as goal

abbrev pub invariant-loop-byte : goal.invariant-loop-byte
invariant-loop-byte l = bits_of 16 l.crc ≡ steps poly_16 (bits_of 16 l.fn.crc) (all_bits (take l.byte-index l.bytes))
