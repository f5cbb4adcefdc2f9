use Rattle.std.proofs.Common.{subst}
use Rattle.obu_data.specs.DefinitionView.{view_definition}
use Rattle.iamf_rules.specs.Defining.{Defines}
use Rattle.iamf_rules.proofs.Ids.{mapped-take, mapped-all}
use Rattle.iamf_rules.proofs.DefiningSteps.{defines-none, defines-step}
use Rattle.iamf_rules.proofs.blocks.Blocks.define.Goals as goal

pub loop-definition-init : goal.loop-definition-init
loop-definition-init c = defines-none c.args.self.now

pub loop-definition-preserved : goal.loop-definition-preserved
loop-definition-preserved c =
    let e = c.in_ok-define_one.ensures {u = tt} in
    rw (mapped-take view_definition c.args.definitions.now c.loop-definition.definition-index c.definition-item.result c.loop-definition-test.true c.definition-item.is)
    (defines-step c.args.self.now c.loop-definition.self c.define_one.new.self _ (view_definition c.definition-item.result) c.loop-definition.invariant e.definitions e.slots)

pub returns : goal.returns
returns c = subst (λ ds. Defines c.args.self.now c.loop-definition.self ds) (mapped-all view_definition c.args.definitions.now c.loop-definition.definition-index c.loop-definition-test.false).0 c.loop-definition.invariant
