use Rattle.std.proofs.Common.{ℕ, List, ◌-◌, ◌≤◌, ◌++◌, length, take}
use Rattle.iamf_stream.specs.Standing.{Stands}
use Rattle.iamf_stream.proofs.open.Open.complete.Given as goal

abbrev pub invariant-loop-at : goal.invariant-loop-at
invariant-loop-at l = record {
  within : l.at ≤ length l.piece;
  stands : (stream : List ℕ) → Stands l.initial.self stream → Stands l.self (stream ++ take l.at l.piece);
}

abbrev pub decreases-loop-at : goal.decreases-loop-at
decreases-loop-at l = length l.piece - l.at
