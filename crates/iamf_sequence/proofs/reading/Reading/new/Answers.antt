use Rattle.std.proofs.Common.{rules}
use Rattle.iamf_sequence.specs.OneList.{entries_are}
use Rattle.iamf_sequence.proofs.reading.Reading.new.Goals as goal

pub returns-clause-entries : goal.returns-clause-entries
returns-clause-entries c = λ l read. search (rules, entries_are)
