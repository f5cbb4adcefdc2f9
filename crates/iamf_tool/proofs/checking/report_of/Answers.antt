use Rattle.iamf_tool.proofs.Checked.{refused}
use Rattle.iamf_tool.proofs.checking.report_of.Goals as goal

pub returns-in-Err : goal.returns-in-Err
returns-in-Err c = refused c.answer_to.result c.args.answer c.in-Err.error c.in-Err.is c.answer_to.ensures
