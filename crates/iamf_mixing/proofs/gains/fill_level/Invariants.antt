use Rattle.std.proofs.Common.{◌≡◌, ℕ, ◌<◌, ◌≤◌, get_or}
use Rattle.iamf_mixing.proofs.gains.fill_level.Given as goal

abbrev pub invariant-loop-k : goal.invariant-loop-k
invariant-loop-k l = record {
  inside : (j : ℕ) → l.from ≤ j → j < l.k → get_or l.row j 0 ≡ l.level;
  before : (j : ℕ) → j < l.from → get_or l.row j 0 ≡ get_or l.initial.row j 0;
  after : (j : ℕ) → l.k ≤ j → get_or l.row j 0 ≡ get_or l.initial.row j 0;
}
