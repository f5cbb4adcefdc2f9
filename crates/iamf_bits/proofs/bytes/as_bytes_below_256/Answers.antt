use Rattle.std.proofs.Common.{arith}
use Rattle.iamf_bits.proofs.Place.{AreBytes-from}
use Rattle.iamf_bits.proofs.bytes.as_bytes_below_256.Goals as goal

pub returns-clause-below : goal.returns-clause-below
returns-clause-below c = AreBytes-from c.args.bytes.now (λ i. omega (arith, c.type_inv.bytes i))
