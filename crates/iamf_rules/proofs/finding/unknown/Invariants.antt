use Rattle.std.proofs.Common.{◌≡◌, ℕ, List, drop}
use Rattle.spec_rules.specs.Rules.{unknown}
use Rattle.iamf_rules.specs.Finding.{HasAll}
use Rattle.iamf_rules.proofs.finding.unknown.Given as goal

abbrev pub invariant-loop-id : goal.invariant-loop-id
invariant-loop-id l = (all : List ℕ) → HasAll l.known all → unknown all (drop l.id-index l.ids) ≡ unknown all l.ids
