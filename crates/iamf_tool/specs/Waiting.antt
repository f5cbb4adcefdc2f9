-- Writing in pieces, of which some wait.
use Rattle.std.specs.Prelude.{◌≡◌, ℕ, List, ◌++◌, Result, Ok, Err}
use Rattle.iamf_io.specs.declared.traits.Failed.{Failed}
use Rattle.iamf_tool.specs.Ends.{Side, Wrote, WroteFront}

-- After the bytes that waited comes the text. Some of the bytes were written, and the others wait.
pub record Passed (waited text waiting : List ℕ) (s : Side) : Type 0 where
  pub front : List ℕ
  pub wrote : Wrote s front
  pub all : front ++ waiting ≡ waited ++ text

-- how it ended
abbrev pub Passes : Result (Unit {0}) Failed → (waited text waiting : List ℕ) → Side → Type 0
Passes (Ok _) waited text waiting s = Passed waited text waiting s
Passes (Err _) waited text waiting s = WroteFront s (waited ++ text)
