use Rattle.std.proofs.Common.{ap, ◌∙◌, arith, rules, FitsSigned, w32, to_z}
use Rattle.std.proofs.lemmas.Int.{to_z-of_z}
use Rattle.spec_samples.specs.Lpcm.{signed_number}
use Rattle.lpcm_sub.proofs.Signs.{signed_32}
use Rattle.lpcm_sub.proofs.Spelled.{most_4, least_4}
use Rattle.lpcm_sub.proofs.number.number_32.Goals as goal

pub returns-then-little : goal.returns-then-little
unfolding signed_number
returns-then-little c =
    let same = least_4 c.args.bytes.now c.requires (λ i. omega (arith, c.type_inv.bytes i)) in
    let fits : FitsSigned w32 c.from_le_bytes.result = search rules in
    rw (c.if-little.true, same, ← signed_32) (to_z-of_z w32 _ fits ∙ c.from_le_bytes.ensures ∙ ap (to_z w32) (omega arith))

pub returns-else-little : goal.returns-else-little
unfolding signed_number
returns-else-little c =
    let same = most_4 c.args.bytes.now c.requires (λ i. omega (arith, c.type_inv.bytes i)) in
    let fits : FitsSigned w32 c.from_be_bytes.result = search rules in
    rw (c.if-little.false, same, ← signed_32) (to_z-of_z w32 _ fits ∙ c.from_be_bytes.ensures ∙ ap (to_z w32) (omega arith))
