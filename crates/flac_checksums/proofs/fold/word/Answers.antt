use Rattle.std.proofs.Common.{◌+◌, ap, sym, ◌∙◌, arith}
use Rattle.spec_bits.specs.Bits.{bits_of, all_bits}
use Rattle.flac_checksums.proofs.WordBytes.{eight_bytes, eight_taken}
use Rattle.flac_checksums.proofs.fold.word.Goals as goal

pub returns : goal.returns
returns c =
    let at = c.args.at in
    let f = c.type_inv.bytes in
    ap (bits_of 64) c.from_be_bytes.ensures
    ∙ eight_bytes _ _ _ _ _ _ _ _ (omega (arith, f at)) (omega (arith, f (at + 1))) (omega (arith, f (at + 2))) (omega (arith, f (at + 3))) (omega (arith, f (at + 4))) (omega (arith, f (at + 5))) (omega (arith, f (at + 6))) (omega (arith, f (at + 7)))
    ∙ ap all_bits (sym (eight_taken c.args.bytes.now at c.requires))
