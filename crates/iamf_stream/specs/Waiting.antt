-- Bytes that wait for more.
use Rattle.std.specs.Prelude.{ℕ, ◌^◌, ◌<◌, ◌≤◌, List, ◌++◌, length}
use Rattle.spec_streams.specs.Front.{IsPartial}

-- The bytes are cut off, and are so with more after them, as long as they are fewer than wanted.
pub record IsWaiting (bytes : List ℕ) (wanted : ℕ) : Type 0 where
  pub short : length bytes < wanted
  pub few : wanted ≤ 2 ^ 21
  pub partial : (more : List ℕ) → length (bytes ++ more) < wanted → IsPartial (bytes ++ more)
