use Rattle.spec_obu.proofs.FaultLaws.{header_fails, header_fails_only, one_first}
use Rattle.spec_obu.proofs.HeaderLaws.{header_read, header_again}
use Rattle.spec_obu.proofs.OneHeader.{either, not_both, one_value}
use Rattle.spec_obu.proofs.one_header.Goals as goal

pub returns-clause-either : goal.returns-clause-either
returns-clause-either c = either

pub returns-clause-not_both : goal.returns-clause-not_both
returns-clause-not_both c = not_both

pub returns-clause-one_value : goal.returns-clause-one_value
returns-clause-one_value c = one_value

pub returns-clause-one_fault : goal.returns-clause-one_fault
returns-clause-one_fault c = one_first

pub returns-clause-read : goal.returns-clause-read
returns-clause-read c = header_read

pub returns-clause-again : goal.returns-clause-again
returns-clause-again c = header_again

pub returns-clause-fails : goal.returns-clause-fails
returns-clause-fails c = header_fails

pub returns-clause-only : goal.returns-clause-only
returns-clause-only c = header_fails_only
