use Rattle.std.proofs.Common.{◌≡◌, ℕ, List, ◌-◌, ◌%◌, length, take, drop, arith, ap, ◌∙◌}
use Rattle.std.proofs.lemmas.List.{take_all, length-drop}
use Rattle.spec_bits.specs.Bits.{Bits, bits_of, all_bits}
use Rattle.spec_checksums.specs.Polynomials.{poly_16, steps}
use Rattle.flac_checksums.specs.Registers.{register}
use Rattle.flac_checksums.proofs.Blocks.{both_parts}
use Rattle.flac_checksums.proofs.Table8.{is_crc_16}
use Rattle.flac_checksums.proofs.frame_checksum.crc16.Goals as goal

pub returns : goal.returns
returns c =
    let xs = c.args.bytes.now in
    let whole = length xs - length xs % 32 in
    let last : take (length xs - whole) (drop whole xs) ≡ drop whole xs = take_all (length xs - whole) (drop whole xs) (omega (arith, length-drop whole xs)) in
    let rest : bits_of 16 c.after.result ≡ register (all_bits xs) = c.after.ensures ∙ ap (λ (ys : List ℕ). steps poly_16 (bits_of 16 c.of_sixteen.result) (all_bits ys)) last ∙ ap (λ (r : Bits). steps poly_16 r (all_bits (drop whole xs))) (c.of_sixteen.ensures ∙ c.folded-words.ensures) ∙ both_parts xs whole in
    is_crc_16 c.after.result (all_bits xs) (omega arith) rest
