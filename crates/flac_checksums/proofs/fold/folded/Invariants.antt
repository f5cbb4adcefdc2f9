use Rattle.std.proofs.Common.{◌≡◌, ◌*◌, take}
use Rattle.spec_bits.specs.Bits.{all_bits}
use Rattle.flac_checksums.specs.Registers.{register, words_bits}
use Rattle.flac_checksums.specs.Sixteen.{words_of}
use Rattle.flac_checksums.proofs.fold.folded.Given as goal

abbrev pub invariant-loop-round : goal.invariant-loop-round
invariant-loop-round l = register (words_bits (words_of l.words)) ≡ register (all_bits (take (128 * l.round) l.bytes))

abbrev pub invariant-loop-block : goal.invariant-loop-block
invariant-loop-block l = register (words_bits (words_of l.words)) ≡ register (all_bits (take (32 * l.block) l.bytes))
