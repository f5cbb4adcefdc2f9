use Rattle.std.proofs.Common.{refl}
use Rattle.flac_checksums.specs.Registers.{register, words_bits}
use Rattle.flac_checksums.specs.Sixteen.{words_of}
use Rattle.flac_checksums.proofs.Blocks.{four_parts}
use Rattle.flac_checksums.proofs.fold.stepped.Goals as goal

pub returns : goal.returns
returns c =
    rw (c.step.ensures, c.step-third.ensures, c.step-second.ensures, c.step-first.ensures, c.word.ensures, c.word-2.ensures, c.word-3.ensures, c.word-4.ensures)
    (four_parts c.args.bytes.now c.args.at 8 16 24 32 refl refl refl (register (words_bits (words_of c.args.words))))
