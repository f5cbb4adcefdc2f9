use Rattle.std.proofs.Common.{◌≡◌, take}
use Rattle.spec_bits.specs.Bits.{zeros, bits_of, all_bits}
use Rattle.spec_checksums.specs.Polynomials.{poly_8, steps}
use Rattle.flac_checksums.proofs.header_checksum.crc8.Given as goal

abbrev pub invariant-loop-byte : goal.invariant-loop-byte
invariant-loop-byte l = bits_of 8 l.crc ≡ steps poly_8 (zeros 8) (all_bits (take l.byte-index l.bytes))
