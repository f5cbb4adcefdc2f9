use Rattle.std.proofs.Common.{arith}
use Rattle.flac_bits.proofs.LeadingZeros.{shifted_to, shifted_large, shifted_small}
use Rattle.flac_bits.proofs.window.low_bits.Goals as goal

pub returns-clause-is : goal.returns-clause-is
returns-clause-is c = λ m bits top one le. omega (arith, c.power.ensures, shifted_to c.args.word m c.args.zeros c.args.count bits le (omega arith) top one)

pub returns-clause-fits : goal.returns-clause-fits
returns-clause-fits c = omega (arith, c.power.ensures, shifted_small c.args.word c.args.zeros c.args.count (omega arith) c.requires.small)

pub overflow_sub-result-2 : goal.overflow_sub-result-2
overflow_sub-result-2 c = rw c.power.ensures (shifted_large c.args.word c.args.zeros c.args.count (omega arith) c.requires.large)
