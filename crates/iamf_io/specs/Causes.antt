-- How faults of the outside are counted, and when one may be answered.
use Rattle.std.specs.Prelude.{◌≡◌, ℕ, ◌+◌, ◌-◌, ◌^◌, ◌≤◌, min, Result, OnOk, OnErr, MatchResult}

-- a count after one more: one that has reached 2^64 - 1 stays there
abbrev pub counted : ℕ → ℕ
counted n = min (n + 1) (2 ^ 64 - 1)

-- the count rose: it is greater now, or stands at its end
abbrev pub Rose : ℕ → ℕ → Type 0
Rose before now = counted before ≤ now

-- a fault is answered only where the count rose in the call; any other answer leaves the count as it was
pub record HasCause {T E : Type 0} (before now : ℕ) (result : Result T E) : Type 0 where
  pub later : before ≤ now
  pub failed : OnErr result (Rose before now)
  pub kept : OnOk result (now ≡ before)

-- the count is the number of the calls that failed
abbrev pub Counts : {T E : Type 0} → ℕ → ℕ → Result T E → Type 0
Counts before now result = MatchResult result (λ _. now ≡ before) (λ _. now ≡ counted before)
