use Rattle.spec_streams.proofs.SureFaults.{sure_stays, partial_not_whole}
use Rattle.spec_streams.proofs.OwnFaults.{no_header_fault}
use Rattle.spec_streams.proofs.front_law.Goals as goal

pub returns-clause-stays : goal.returns-clause-stays
returns-clause-stays c = sure_stays

pub returns-clause-partial : goal.returns-clause-partial
returns-clause-partial c = partial_not_whole

pub returns-clause-own : goal.returns-clause-own
returns-clause-own c = no_header_fault
