use Rattle.std.proofs.Common.{sym}
use Rattle.spec_flac.proofs.FoundFaults.{fault_found, none_found}
use Rattle.iamf_rules.proofs.coded.flac_fault.Goals as goal

pub returns-in-Ok-clause-fault : goal.returns-in-Ok-clause-fault
returns-in-Ok-clause-fault c = λ room. sym ((none_found c.args.shape c.args.bytes.now).1 (_, c.in-Ok.ensures.decoded))

pub returns-in-Err-clause-fault : goal.returns-in-Err-clause-fault
returns-in-Err-clause-fault c = λ room. sym ((fault_found c.args.shape c.args.bytes.now c.in-Err.fault).1 c.in-Err.ensures.decoded)
