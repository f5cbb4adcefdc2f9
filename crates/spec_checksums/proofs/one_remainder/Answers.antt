use Rattle.spec_checksums.proofs.Division.{remainder_is}
use Rattle.spec_checksums.proofs.Unique.{one_remainder}
use Rattle.spec_checksums.proofs.one_remainder.Goals as goal

pub returns-clause-is : goal.returns-clause-is
returns-clause-is c = λ p bits wide. remainder_is p bits wide

pub returns-clause-only : goal.returns-clause-only
returns-clause-only c = λ p bits r s a b. one_remainder p bits r s a b
