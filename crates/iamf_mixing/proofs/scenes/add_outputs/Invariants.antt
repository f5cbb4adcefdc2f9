use Rattle.std.proofs.Common.{◌≡◌, ℕ, ◌<◌, ◌≤◌, ◌+◌, ◌^◌, get_or, pos, ◌+ℤ◌, unsigned_abs}
use Rattle.spec_play.specs.FixedMix.{gained}
use Rattle.iamf_mixing.specs.Scenes.{scene_units}
use Rattle.iamf_mixing.proofs.scenes.add_outputs.Given as goal

abbrev pub invariant-loop-c : goal.invariant-loop-c
invariant-loop-c l = record {
  added : (k : ℕ) → k < l.c → get_or l.sums k (pos 0) ≡ get_or l.initial.sums k (pos 0) +ℤ gained (scene_units l.config l.coded k) l.gain;
  growth : (k : ℕ) → k < l.c → unsigned_abs (get_or l.sums k (pos 0)) ≤ unsigned_abs (get_or l.initial.sums k (pos 0)) + 2 ^ 73;
  left : (k : ℕ) → l.c ≤ k → get_or l.sums k (pos 0) ≡ get_or l.initial.sums k (pos 0);
}
