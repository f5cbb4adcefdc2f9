use Rattle.std.proofs.Common.{arith}
use Rattle.std.proofs.lemmas.Nat.{one_shl}
use Rattle.flac_bits.proofs.window.power.Goals as goal

pub returns : goal.returns
returns c = one_shl c.args.count 64 (omega arith)
