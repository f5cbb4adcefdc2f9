use Rattle.std.proofs.Common.{◌≡◌, ℕ, ◌<◌, ◌≤◌, get_or, pos}
use Rattle.spec_play.specs.FixedMix.{gained}
use Rattle.iamf_mixing.proofs.output.apply_output.Given as goal

abbrev pub invariant-loop-c : goal.invariant-loop-c
invariant-loop-c l = record {
  done : (k : ℕ) → k < l.c → get_or l.sums k (pos 0) ≡ gained (get_or l.initial.sums k (pos 0)) l.gain;
  left : (k : ℕ) → l.c ≤ k → get_or l.sums k (pos 0) ≡ get_or l.initial.sums k (pos 0);
}
