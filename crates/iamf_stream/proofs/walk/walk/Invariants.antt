use Rattle.std.proofs.Common.{ℕ, List, ◌+◌, ◌-◌, ◌≤◌, length, drop}
use Rattle.iamf_stream.specs.Standing.{Passed}
use Rattle.iamf_stream.proofs.walk.walk.Given as goal

abbrev pub invariant-loop-at : goal.invariant-loop-at
invariant-loop-at l = record {
  within : l.at ≤ length l.bytes;
  passed : (stream : List ℕ) → Passed l.initial.admission l.place l.bytes stream → Passed l.admission (l.place + l.at) (drop l.at l.bytes) stream;
}

abbrev pub decreases-loop-at : goal.decreases-loop-at
decreases-loop-at l = length l.bytes - l.at
