use Rattle.spec_values.proofs.Obus.{canonical_spells, never_longer}
use Rattle.spec_values.proofs.laws.one_canonical.Goals as goal

pub returns-clause-spells : goal.returns-clause-spells
returns-clause-spells c = canonical_spells

pub returns-clause-shortest : goal.returns-clause-shortest
returns-clause-shortest c = never_longer
