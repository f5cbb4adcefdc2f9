use Rattle.std.proofs.Common.{arith}
use Rattle.std.proofs.Math.Facts.{to_z-of_z}
use Rattle.std.specs.Int.{w16}
use mir.Val.{SFits}
use Rattle.std.proofs.lemmas.Int.{ints}
use Rattle.spec_bits.proofs.SignedFields.{signed_there, signed_short}
use Rattle.iamf_bits.proofs.view.View.take_i16.Goals as goal

pub returns-in-Ok-clause-takes : goal.returns-in-Ok-clause-takes
returns-in-Ok-clause-takes c =
    let fits : SFits w16 c.signed.result = omega (arith, ints) in
    rw (to_z-of_z fits, c.signed.ensures) (signed_there 16 _ _ _ c.in-Ok.ensures.takes)

pub returns-in-Err-clause-takes : goal.returns-in-Err-clause-takes
returns-in-Err-clause-takes c = (signed_short 16 _ _ c.in-Err.ensures.takes.0, c.in-Err.ensures.takes.1)
