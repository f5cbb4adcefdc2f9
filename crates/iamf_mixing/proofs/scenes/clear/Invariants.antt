use Rattle.std.proofs.Common.{◌≡◌, ℕ, ◌<◌, get_or, pos}
use Rattle.iamf_mixing.proofs.scenes.clear.Given as goal

abbrev pub invariant-loop-sum : goal.invariant-loop-sum
invariant-loop-sum l = (c : ℕ) → c < l.sum-index → get_or l.sums c (pos 0) ≡ pos 0
