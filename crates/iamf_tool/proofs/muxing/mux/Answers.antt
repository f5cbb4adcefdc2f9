use Rattle.iamf_tool.specs.declared.command.Command.TheVariants as given
use Rattle.iamf_tool.specs.declared.command.Conversion.TheVariants as conversion
use Rattle.iamf_tool.proofs.Refused.{answered_to_mux}
use Rattle.iamf_tool.proofs.muxing.mux.Goals as goal

pub returns-in-Err : goal.returns-in-Err
returns-in-Err g c =
    c.conclude.ensures (given.Convert conversion.Mux) c.args.bytes.now (answered_to_mux c.answer_to.result c.in-Err.error c.args.bytes.now c.answer_to.ensures c.in-Err.ensures.refused)
