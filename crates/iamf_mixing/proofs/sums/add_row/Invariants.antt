use Rattle.std.proofs.Common.{◌≡◌, ℕ, ◌<◌, ◌≤◌, get_or, pos, ◌+ℤ◌}
use Rattle.spec_play.specs.FixedMix.{gained}
use Rattle.iamf_mixing.proofs.sums.add_row.Given as goal

abbrev pub invariant-loop-c : goal.invariant-loop-c
invariant-loop-c l = record {
  added : (k : ℕ) → k < l.c → get_or l.sums k (pos 0) ≡ get_or l.initial.sums k (pos 0) +ℤ gained (get_or l.channels k (pos 0)) l.gain;
  left : (k : ℕ) → l.c ≤ k → get_or l.sums k (pos 0) ≡ get_or l.initial.sums k (pos 0);
}
