-- How a run has to end where nothing failed.
use Rattle.std.specs.Prelude.{◌≡◌, ℕ, ◌^◌, ◌<◌, ◌≤◌, ◌⊎◌, IfSome, List, length, Option, Some, None}
use Rattle.iamf_io.specs.Causes.{Rose}
use Rattle.iamf_tool.specs.declared.command.Command.{Command}
use Rattle.iamf_tool.specs.declared.command.Command.TheVariants as command
use Rattle.iamf_tool.specs.declared.status.Status.{Status}
use Rattle.iamf_tool.specs.declared.status.Status.TheVariants.{Done, Refused, Memory, TooLarge}
use Rattle.iamf_tool.specs.Outcome.{Output, Refusal, Unplayable, IsHeard, Outcome}
use Rattle.iamf_tool.specs.Ends.{Side, Ran}

-- the count did not rise
abbrev pub IsCalm : Side → Type 0
IsCalm s = Rose s.count_before s.count_after → ⊥

abbrev pub IsOrMemory : Status → Status → Type 0
IsOrMemory status wanted = (status ≡ wanted) ⊎ (status ≡ Memory)

-- the command is to play a mix of the sequence that the bytes are, and the mix is played
abbrev pub IsToPlay : Command → List ℕ → Type 0
IsToPlay (command.Play mix target) b = IsHeard mix target b
IsToPlay command.Check b = ⊥
IsToPlay (command.Convert c) b = ⊥

-- Where these are all the bytes that the source tells: an output or a refusal is what the command gives for them,
-- where they are at most 2^30 and nothing failed; and they are too large where they are more and the source did not fail.
-- A mix of a sequence that no rule forbids is played.
pub record CompletesOn (status : Status) (c : Command) (source out : Side) (b : List ℕ) : Type 0 where
  pub done : length b ≤ 2 ^ 30 → IsCalm source → IsCalm out → (output : List ℕ) → Outcome c b (Output output) → IsOrMemory status Done
  pub refused : length b ≤ 2 ^ 30 → IsCalm source → IsCalm out → (place code : ℕ) → Outcome c b (Refusal place code) → IsOrMemory status Refused
  pub unplayable : length b ≤ 2 ^ 30 → IsCalm source → IsCalm out → (code : ℕ) → Outcome c b (Unplayable code) → IsOrMemory status Refused
  pub played : length b ≤ 2 ^ 30 → IsCalm source → IsCalm out → IsToPlay c b → IsOrMemory status Done
  pub too_large : 2 ^ 30 < length b → IsCalm source → IsOrMemory status TooLarge

-- on words that say this
abbrev pub Completes : Status → Option Command → Ran → Type 0
Completes status None r = Unit {0}
Completes status (Some c) r = IfSome r.source.before (λ b. CompletesOn status c r.source r.out b)
