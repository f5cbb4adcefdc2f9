use Rattle.std.proofs.Common.{◌≡◌, take}
use Rattle.spec_bits.specs.Bits.{bits_of}
use Rattle.flac_checksums.specs.Registers.{register, words_bits}
use Rattle.flac_checksums.proofs.frame_checksum.of_words.Given as goal

abbrev pub invariant-loop-word : goal.invariant-loop-word
invariant-loop-word l = bits_of 16 l.crc ≡ register (words_bits (take l.word-index l.words))
