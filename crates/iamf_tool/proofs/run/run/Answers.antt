use Rattle.std.proofs.Common.{sym, ◌∙◌}
use Rattle.iamf_tool.proofs.Complete.{completes_on}
use Rattle.iamf_tool.proofs.run.run.Goals as goal

pub returns-in-Some-clause-completes : goal.returns-in-Some-clause-completes
returns-in-Some-clause-completes g c = completes_on _ _ c.in-Some.command _ (sym c.read_words.ensures.same ∙ c.in-Some.is) c.job.ensures
