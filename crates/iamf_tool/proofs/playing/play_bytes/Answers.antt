use Rattle.iamf_tool.specs.declared.command.Command.TheVariants as given
use Rattle.iamf_tool.proofs.Refused.{answered_to_play}
use Rattle.iamf_tool.proofs.playing.play_bytes.Goals as goal

pub returns-in-Err : goal.returns-in-Err
returns-in-Err g c =
    c.conclude.ensures (given.Play c.args.mix c.args.target) c.args.bytes.now (answered_to_play c.answer_to.result c.in-Err.error c.args.mix c.args.target c.args.bytes.now c.answer_to.ensures c.in-Err.ensures.refused)
