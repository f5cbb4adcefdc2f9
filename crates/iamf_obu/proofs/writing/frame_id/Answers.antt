use Rattle.std.proofs.Common.{ap, refl, ◌∙◌}
use Rattle.std.proofs.lemmas.Bool.{ne_eqb}
use Rattle.spec_bits.specs.Bits.{all_bits}
use Rattle.iamf_obu.proofs.writing.frame_id.Goals as goal

pub returns-else-kind-eq5 : goal.returns-else-kind-eq5
unfolding all_bits
returns-else-kind-eq5 c = ap all_bits c.none.ensures ∙ rw (ne_eqb c.args.kind 5 c.if-kind-eq5.false) refl
