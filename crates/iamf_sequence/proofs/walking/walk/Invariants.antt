use Rattle.std.proofs.Common.{length, take, List, ◌-◌, ◌≤◌}
use Rattle.spec_sequence.specs.Reading.{Entry, Admitted}
use Rattle.iamf_admission.specs.AdmissionView.{Stands}
use Rattle.iamf_sequence.proofs.walking.walk.Given as goal

abbrev pub invariant-loop-at : goal.invariant-loop-at
invariant-loop-at g l = record {
  number : l.admission.admitted ≤ l.at;
  within : l.at ≤ length l.buffer;
  stands : (es : List Entry) × Admitted (take l.at l.buffer) es × Stands l.admission es × g.G.Gather.stands l.gather l.buffer l.at es;
}

abbrev pub decreases-loop-at : goal.decreases-loop-at
decreases-loop-at g l = length l.buffer - l.at
