use Rattle.std.proofs.Common.{refl}
use Rattle.flac_checksums.specs.Registers.{register, words_bits}
use Rattle.flac_checksums.specs.Sixteen.{words_of}
use Rattle.flac_checksums.proofs.Blocks.{four_parts}
use Rattle.flac_checksums.proofs.fold.after_round.Goals as goal

pub returns : goal.returns
returns c =
    rw (c.stepped.ensures, c.stepped-third.ensures, c.stepped-second.ensures, c.stepped-first.ensures)
    (four_parts c.args.bytes.now c.args.at 32 64 96 128 refl refl refl (register (words_bits (words_of c.args.words))))
