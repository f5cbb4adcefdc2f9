use Rattle.std.proofs.Common.{map, take}
use Rattle.obu_data.specs.DefinitionView.{view_definition}
use Rattle.iamf_rules.specs.Defining.{Defines}
use Rattle.iamf_rules.proofs.blocks.Blocks.define.Given as goal

abbrev pub invariant-loop-definition : goal.invariant-loop-definition
invariant-loop-definition l = Defines l.fn.self l.self (take l.definition-index (map view_definition l.definitions))
