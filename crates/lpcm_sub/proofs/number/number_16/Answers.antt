use Rattle.std.proofs.Common.{ap, ◌∙◌, arith, rules, FitsSigned, w16, w32, to_z}
use Rattle.std.proofs.lemmas.Int.{to_z-of_z}
use Rattle.spec_samples.specs.Lpcm.{signed_number}
use Rattle.lpcm_sub.proofs.Signs.{signed_16}
use Rattle.lpcm_sub.proofs.Spelled.{most_2, least_2}
use Rattle.lpcm_sub.proofs.number.number_16.Goals as goal

pub returns-then-little : goal.returns-then-little
unfolding signed_number
returns-then-little c =
    let same = least_2 c.args.bytes.now c.requires (λ i. omega (arith, c.type_inv.bytes i)) in
    let wide : FitsSigned w32 c.from.result = search rules in
    let narrow : FitsSigned w16 c.from_le_bytes.result = search rules in
    rw (c.if-little.true, same, ← signed_16) (to_z-of_z w32 _ wide ∙ c.from.ensures ∙ to_z-of_z w16 _ narrow ∙ c.from_le_bytes.ensures ∙ ap (to_z w16) (omega arith))

pub returns-else-little : goal.returns-else-little
unfolding signed_number
returns-else-little c =
    let same = most_2 c.args.bytes.now c.requires (λ i. omega (arith, c.type_inv.bytes i)) in
    let wide : FitsSigned w32 c.from-else-little.result = search rules in
    let narrow : FitsSigned w16 c.from_be_bytes.result = search rules in
    rw (c.if-little.false, same, ← signed_16) (to_z-of_z w32 _ wide ∙ c.from-else-little.ensures ∙ to_z-of_z w16 _ narrow ∙ c.from_be_bytes.ensures ∙ ap (to_z w16) (omega arith))
