use Rattle.std.proofs.Common.{refl}
use Rattle.std.proofs.KnownBytes.{Keeps-refl}
use Rattle.iamf_tool.specs.declared.command.Command.TheVariants as given
use Rattle.iamf_tool.specs.Ends.{side, ran}
use Rattle.iamf_tool.proofs.Concluded.{concluded}
use Rattle.iamf_tool.proofs.Checked.{reported, left_off}
use Rattle.iamf_tool.proofs.checking.check.Goals as goal

pub returns-in-Ok : goal.returns-in-Ok
returns-in-Ok g c =
    let gives = reported c.report_of.result c.in-Ok.answer c.in-Ok.ensures.bytes c.report_of.ensures c.in-Ok.ensures.tells in
    let r = ran (side g.R.Source.left g.R.Source.faults c.args.source.now c.checked.new.source) (side g.W.Sink.held g.W.Sink.faults c.args.out.now c.conclude.new.out) (side g.N.Sink.held g.N.Sink.faults c.args.notes.now c.conclude.new.notes) in
    concluded c.conclude.result given.Check r c.in-Ok.ensures.bytes c.in-Ok.ensures.all c.in-Ok.ensures.same (c.conclude.ensures given.Check c.in-Ok.ensures.bytes gives)

pub returns-in-Err : goal.returns-in-Err
returns-in-Err g c =
    left_off c.unread.result c.in-Err.error given.Check _ c.unread.ensures.same c.in-Err.ensures (record { kept = Keeps-refl _; same = refl }) c.unread.ensures.noted
