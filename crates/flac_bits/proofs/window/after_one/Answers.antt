use Rattle.std.proofs.Common.{arith}
use Rattle.flac_bits.proofs.Moved.{moved_one}
use Rattle.flac_bits.proofs.window.after_one.Goals as goal

pub returns-clause-is : goal.returns-clause-is
returns-clause-is c = record {
  place = λ bytes is. omega (arith, is.behind, c.requires.within);
  is = λ bytes is. moved_one bytes c.args.window c.args.zeros c.requires.within is;
}
