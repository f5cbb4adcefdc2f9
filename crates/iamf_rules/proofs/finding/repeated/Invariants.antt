use Rattle.std.proofs.Common.{◌≡◌, ◌++◌, ℕ, List, take, drop}
use Rattle.spec_rules.specs.Rules.{repeated}
use Rattle.iamf_rules.specs.Finding.{HasAll, HasIds}
use Rattle.iamf_rules.proofs.finding.repeated.Given as goal

abbrev pub invariant-loop-id : goal.invariant-loop-id
invariant-loop-id l = record {
  before : HasIds l.before (take l.id-index l.ids);
  rest : (known : List ℕ) → HasAll l.slots known → repeated (known ++ take l.id-index l.ids) (drop l.id-index l.ids) ≡ repeated known l.ids;
}
