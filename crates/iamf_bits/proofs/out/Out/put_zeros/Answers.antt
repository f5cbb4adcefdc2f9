use Rattle.spec_bits.specs.Form.{canonical}
use Rattle.spec_bits.proofs.JoinLaws.{bits_of-zeros}
use Rattle.iamf_bits.proofs.out.Out.put_zeros.Goals as goal

pub returns-clause-bits : goal.returns-clause-bits
unfolding canonical
returns-clause-bits c = rw (← bits_of-zeros c.args.n) c.put_bits.ensures.bits
