use Rattle.std.proofs.Common.{◌≡◌, ℕ, ◌^◌, ◌≤◌, ◌<◌, pos, ◌*ℤ◌}
use Rattle.std.specs.Prelude.{slice_index_or}
use Rattle.flac_subframes.proofs.scale.scale.Given as goal

abbrev pub invariant-loop-n : goal.invariant-loop-n
invariant-loop-n l = record {
  done : (i : ℕ) → i < l.n → slice_index_or l.row i (pos 0) ≡ slice_index_or l.fn.row i (pos 0) *ℤ pos (2 ^ l.wasted);
  left : (i : ℕ) → l.n ≤ i → slice_index_or l.row i (pos 0) ≡ slice_index_or l.fn.row i (pos 0);
}
