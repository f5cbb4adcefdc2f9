use Rattle.std.proofs.Common.{◌^◌, ◌<◌, ap, ◌∙◌, arith, rules, reverse, FitsSigned, w32, to_z}
use Rattle.spec_bits.specs.Bits.{number_of, all_bits}
use Rattle.spec_samples.specs.Lpcm.{signed_number}
use Rattle.lpcm_sub.proofs.Signs.{shifted_24}
use Rattle.lpcm_sub.proofs.Spelled.{most_3, least_3}
use Rattle.lpcm_sub.proofs.number.number_24.Goals as goal

pub returns-then-little : goal.returns-then-little
unfolding signed_number
returns-then-little c =
    let same = least_3 c.args.bytes.now c.requires (λ i. omega (arith, c.type_inv.bytes i)) in
    let small : number_of (all_bits (reverse c.args.bytes.now)) < 2 ^ 24 = omega (arith, same, c.type_inv.bytes 0, c.type_inv.bytes 1, c.type_inv.bytes 2) in
    let fits : FitsSigned w32 c.from_le_bytes.result = search rules in
    rw c.if-little.true (shifted_24 _ (number_of (all_bits (reverse c.args.bytes.now))) small fits (c.from_le_bytes.ensures ∙ ap (to_z w32) (omega (arith, same))))

pub returns-else-little : goal.returns-else-little
unfolding signed_number
returns-else-little c =
    let same = most_3 c.args.bytes.now c.requires (λ i. omega (arith, c.type_inv.bytes i)) in
    let small : number_of (all_bits c.args.bytes.now) < 2 ^ 24 = omega (arith, same, c.type_inv.bytes 0, c.type_inv.bytes 1, c.type_inv.bytes 2) in
    let fits : FitsSigned w32 c.from_be_bytes.result = search rules in
    rw c.if-little.false (shifted_24 _ (number_of (all_bits c.args.bytes.now)) small fits (c.from_be_bytes.ensures ∙ ap (to_z w32) (omega (arith, same))))
