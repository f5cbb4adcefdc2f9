use Rattle.spec_bits.specs.Bits.{all_bits, bits_of}
use Rattle.iamf_bits.specs.Written.{written_bits}
use Rattle.iamf_bits.proofs.out.Out.new.Goals as goal

pub returns-clause-bits : goal.returns-clause-bits
unfolding written_bits all_bits bits_of
returns-clause-bits c = rw c.new.ensures.items
