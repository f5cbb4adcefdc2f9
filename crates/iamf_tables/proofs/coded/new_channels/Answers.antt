use Rattle.std.proofs.Common.{◌≡◌, true, false}
use Rattle.spec_layouts.proofs.StepTest.{step_decides}
use Rattle.spec_layouts.specs.Steps.{is_step}
use Rattle.std.proofs.lemmas.Bool.Decides.{Decides-at}
use Rattle.iamf_tables.proofs.coded.new_channels.Goals as goal

pub returns-then-not-is_step-clause-allowed : goal.returns-then-not-is_step-clause-allowed
returns-then-not-is_step-clause-allowed c =
    let e : false ≡ is_step c.in-Some.before c.args.now = cc in
    rw c.in-Some.is (Decides-at false (is_step c.in-Some.before c.args.now) e (step_decides c.in-Some.before c.args.now))

pub returns-else-not-is_step-clause-allowed : goal.returns-else-not-is_step-clause-allowed
returns-else-not-is_step-clause-allowed c =
    let e : true ≡ is_step c.in-Some.before c.args.now = cc in
    rw c.in-Some.is (Decides-at true (is_step c.in-Some.before c.args.now) e (step_decides c.in-Some.before c.args.now))
