use Rattle.std.specs.Prelude.{None}
use Rattle.spec_sequence.proofs.FixedContext.{keeps-nil}
use Rattle.iamf_admission.proofs.OneMore.{last_none, coded_none}
use Rattle.iamf_admission.proofs.kept.Kept.new.Goals as goal

pub returns : goal.returns
returns c = record { rules = c.new.ensures; copies = c.new-2.ensures; tally = c.new-3.ensures; keeps = keeps-nil; coded = coded_none None; last = last_none }
