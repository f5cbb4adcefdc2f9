use Rattle.spec_streams.proofs.Settling.{settled_stays, partial_not_settled}
use Rattle.spec_streams.proofs.settled_law.Goals as goal

pub returns-clause-stays : goal.returns-clause-stays
returns-clause-stays c = settled_stays

pub returns-clause-partial : goal.returns-clause-partial
returns-clause-partial c = partial_not_settled
