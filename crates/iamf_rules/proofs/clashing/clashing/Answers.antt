use Rattle.std.proofs.Common.{refl, map}
use Rattle.obu_data.specs.DefinitionView.{view_definition}
use Rattle.iamf_rules.proofs.Ids.{mapped-take, mapped-drop, mapped-all}
use Rattle.iamf_rules.proofs.Clashes.{recalls-none, compares-on, compares-stop, compares-all}
use Rattle.iamf_rules.proofs.clashing.clashing.Goals as goal

pub loop-definition-init : goal.loop-definition-init
loop-definition-init c = record { recalls = rw c.new-before.ensures (recalls-none c.args.known.now); rest = refl }

pub loop-definition-preserved : goal.loop-definition-preserved
loop-definition-preserved c =
    let item = c.definition-item.result in
    let adds = c.in_ok-agrees.ensures {u = tt} in
    compares-on c.loop-definition.before c.args.known.now c.recall.new.before c.add.new.definitions (map view_definition c.args.more.now) c.loop-definition.definition-index (view_definition item) _ c.in_ok-agrees.agrees
    (record { front = mapped-take view_definition c.args.more.now c.loop-definition.definition-index item c.loop-definition-test.true c.definition-item.is; back = mapped-drop view_definition c.args.more.now c.loop-definition.definition-index item c.loop-definition-test.true c.definition-item.is })
    c.loop-definition.invariant (record { now_is = c.in_ok-recall.ensures {u = tt}; shape_is = c.in_ok-shape.ensures.copies; new_is = adds.added; agrees_is = adds.agrees }) c.if-not-agrees.false

pub returns-then-not-agrees : goal.returns-then-not-agrees
returns-then-not-agrees c =
    let item = c.definition-item.result in
    let adds = c.in_ok-agrees.ensures {u = tt} in
    compares-stop c.loop-definition.before c.args.known.now c.recall.new.before c.add.new.definitions (map view_definition c.args.more.now) c.loop-definition.definition-index (view_definition item) _ c.in_ok-agrees.agrees
    (record { front = mapped-take view_definition c.args.more.now c.loop-definition.definition-index item c.loop-definition-test.true c.definition-item.is; back = mapped-drop view_definition c.args.more.now c.loop-definition.definition-index item c.loop-definition-test.true c.definition-item.is })
    c.loop-definition.invariant (record { now_is = c.in_ok-recall.ensures {u = tt}; shape_is = c.in_ok-shape.ensures.copies; new_is = adds.added; agrees_is = adds.agrees }) c.if-not-agrees.true

pub returns : goal.returns
returns c = compares-all c.loop-definition.before c.args.known.now (map view_definition c.args.more.now) c.loop-definition.definition-index
    (mapped-all view_definition c.args.more.now c.loop-definition.definition-index c.loop-definition-test.false).1 c.loop-definition.invariant
