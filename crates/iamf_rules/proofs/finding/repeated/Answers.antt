use Rattle.std.proofs.Common.{arith, ◌≡◌, ◌++◌, false, get_or, take, ◌∙◌, sym}
use Rattle.std.proofs.lemmas.Grind.{common_steps}
use Rattle.std.proofs.lemmas.List.Folds.{list_any-append}
use Rattle.spec_rules.specs.Units.{contains}
use Rattle.iamf_rules.proofs.Ids.{contains-take, repeated-step}
use Rattle.iamf_rules.proofs.finding.repeated.Goals as goal

pub loop-id-preserved : goal.loop-id-preserved
loop-id-preserved c = record {
  before = λ id. grind (arith, common_steps, c.loop-id.invariant.before id, contains-take c.args.ids.now c.loop-id.id-index id c.loop-id-test.true);
  rest = λ known all.
      let new : contains (known ++ take c.loop-id.id-index c.args.ids.now) (get_or c.args.ids.now c.loop-id.id-index 0) ≡ false =
      grind (arith, common_steps, list_any-append, all (get_or c.args.ids.now c.loop-id.id-index 0), c.loop-id.invariant.before (get_or c.args.ids.now c.loop-id.id-index 0)) in
      sym (repeated-step known c.args.ids.now c.loop-id.id-index c.loop-id-test.true new) ∙ c.loop-id.invariant.rest known all;
}
