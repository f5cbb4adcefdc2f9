use Rattle.std.proofs.Common.{rules, FitsSigned, w64, to_z-of_z}
use Rattle.flac_subframes.proofs.Samples.{plain_there, plain_short, plain_small}
use Rattle.flac_subframes.proofs.code.plain_residual_from.Goals as goal

pub returns-in-Ok-clause-gives : goal.returns-in-Ok-clause-gives
returns-in-Ok-clause-gives c =
    let f : FitsSigned w64 c.in-Ok.value = search rules in
    rw (to_z-of_z f) (plain_there c.args.width c.in-Ok.value _ _ c.in-Ok.ensures.takes)

pub returns-in-Ok-clause-small : goal.returns-in-Ok-clause-small
returns-in-Ok-clause-small c =
    let f : FitsSigned w64 c.in-Ok.value = search rules in
    rw (to_z-of_z f) (plain_small c.in-Ok.value c.args.width c.requires c.in-Ok.ensures.small)

pub returns-in-Err-clause-gives : goal.returns-in-Err-clause-gives
returns-in-Err-clause-gives c = plain_short c.args.width _ c.in-Err.fault c.in-Err.ensures.takes.0 c.in-Err.ensures.takes.1
