use Rattle.spec_flac.proofs.FoundFaults.{fault_found, none_found}
use Rattle.spec_flac.proofs.first_fault.first_fault_law.Goals as goal

pub returns-clause-fault : goal.returns-clause-fault
returns-clause-fault c = fault_found

pub returns-clause-none : goal.returns-clause-none
returns-clause-none c = none_found
