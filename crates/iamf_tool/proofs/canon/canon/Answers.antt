use Rattle.spec_values.specs.Canonical.{encoded}
use Rattle.iamf_tool.specs.declared.command.Command.TheVariants as given
use Rattle.iamf_tool.specs.declared.command.Conversion.TheVariants as conversion
use Rattle.iamf_tool.proofs.Refused.{answered}
use Rattle.iamf_tool.proofs.canon.canon.Goals as goal

pub returns-in-Ok : goal.returns-in-Ok
returns-in-Ok g c = let r = c.in-Ok.ensures.respells in c.write_canonical.ensures c.args.bytes.now r.0 r.1 r.2

pub returns-in-Err : goal.returns-in-Err
returns-in-Err g c =
    c.conclude.ensures (given.Convert conversion.Canon) c.args.bytes.now (answered c.answer_to.result c.in-Err.error encoded c.args.bytes.now c.answer_to.ensures c.in-Err.ensures.refused)
