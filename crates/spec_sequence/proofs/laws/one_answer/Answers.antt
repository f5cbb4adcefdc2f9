use Rattle.spec_sequence.proofs.EitherAnswer.{either_answer}
use Rattle.spec_sequence.proofs.OneAnswer.{reads_is_not_refused, one_entries, one_reading, one_refusal}
use Rattle.spec_sequence.proofs.laws.one_answer.Goals as goal

pub returns-clause-either : goal.returns-clause-either
returns-clause-either c = either_answer

pub returns-clause-not_both : goal.returns-clause-not_both
returns-clause-not_both c = reads_is_not_refused

pub returns-clause-entries : goal.returns-clause-entries
returns-clause-entries c = one_entries

pub returns-clause-reading : goal.returns-clause-reading
returns-clause-reading c = one_reading

pub returns-clause-refusal : goal.returns-clause-refusal
returns-clause-refusal c = one_refusal
