use Rattle.std.proofs.Common.{rules, FitsSigned, w64, to_z-of_z}
use Rattle.spec_bits.proofs.SignedFields.{signed_there, signed_short}
use Rattle.flac_bits.proofs.reader.Reader.take_signed.Goals as goal

pub returns-in-Ok-clause-takes : goal.returns-in-Ok-clause-takes
returns-in-Ok-clause-takes c =
    let fits : FitsSigned w64 c.signed.result = search rules in
    rw (to_z-of_z fits, c.signed.ensures.is) (signed_there c.args.count _ _ _ c.in-Ok.ensures.takes)

pub returns-in-Err-clause-takes : goal.returns-in-Err-clause-takes
returns-in-Err-clause-takes c = (signed_short c.args.count _ _ c.in-Err.ensures.takes.0, c.in-Err.ensures.takes.1)
