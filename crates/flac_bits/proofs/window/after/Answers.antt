use Rattle.std.proofs.Common.{arith}
use Rattle.flac_bits.proofs.Moved.{moved}
use Rattle.flac_bits.proofs.window.after.Goals as goal

pub returns-clause-is : goal.returns-clause-is
returns-clause-is c = record {
  place = λ bytes is. omega (arith, is.behind, c.requires.within);
  is = λ bytes is. moved bytes c.args.window c.args.count c.requires.within is;
}
