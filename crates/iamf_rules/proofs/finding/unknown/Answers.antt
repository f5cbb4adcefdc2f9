use Rattle.std.proofs.Common.{arith, ◌≡◌, true, get_or, ◌∙◌, sym}
use Rattle.std.proofs.lemmas.Grind.{common_steps}
use Rattle.spec_rules.specs.Units.{contains}
use Rattle.iamf_rules.proofs.Ids.{unknown-step}
use Rattle.iamf_rules.proofs.finding.unknown.Goals as goal

pub loop-id-preserved : goal.loop-id-preserved
loop-id-preserved c = λ all has.
    let old : contains all (get_or c.args.ids.now c.loop-id.id-index 0) ≡ true = grind (arith, common_steps, has (get_or c.args.ids.now c.loop-id.id-index 0)) in
    sym (unknown-step all c.args.ids.now c.loop-id.id-index c.loop-id-test.true old) ∙ c.loop-id.invariant all has
