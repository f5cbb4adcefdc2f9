use Rattle.std.proofs.Common.{◌*◌, arith, ◌∙◌}
use Rattle.std.proofs.lemmas.List.{length-drop}
use Rattle.spec_bits.specs.Bits.{all_bits}
use Rattle.spec_bits.proofs.BitsLaws.{length-all_bits}
use Rattle.flac_bits.proofs.EightBytes.{eight}
use Rattle.flac_bits.proofs.window.word.Goals as goal

pub returns : goal.returns
returns c =
    let xs = c.args.bytes.now in
    record {
      few = omega arith;
      inside = omega (arith, length-drop (8 * c.args.at) (all_bits xs), length-all_bits xs);
      value = c.from_be_bytes.ensures ∙ eight xs c.args.at c.requires (λ i. let f = c.type_inv.bytes i in omega arith);
    }
