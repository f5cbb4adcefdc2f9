use Rattle.spec_report.specs.Report.{escaped}
use Rattle.iamf_report.proofs.TextLaws.{push_more}
use Rattle.iamf_report.proofs.print.push_escaped.Goals as goal

pub loop-byte-preserved : goal.loop-byte-preserved
loop-byte-preserved c = push_more escaped c.args.bytes.now c.loop-byte.byte-index _ _ _ _ c.loop-byte-test.true c.loop-byte.invariant c.in_ok-push_escaped_byte.ensures
