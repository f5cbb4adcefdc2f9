use Rattle.spec_values.proofs.Obus.{one_value, no_prefix}
use Rattle.spec_values.proofs.laws.one_value.Goals as goal

pub returns-clause-value : goal.returns-clause-value
returns-clause-value c = one_value

pub returns-clause-prefix : goal.returns-clause-prefix
returns-clause-prefix c = no_prefix
