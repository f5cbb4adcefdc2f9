use Rattle.std.proofs.Common.{map}
use Rattle.obu_data.specs.DefinitionView.{view_definition}
use Rattle.iamf_rules.proofs.Clashes.{Compares}
use Rattle.iamf_rules.proofs.clashing.clashing.Given as goal

abbrev pub invariant-loop-definition : goal.invariant-loop-definition
invariant-loop-definition l = Compares l.before l.known (map view_definition l.more) l.definition-index
