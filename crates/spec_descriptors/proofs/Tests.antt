-- What it says that no condition of a field fails.
use Rattle.std.proofs.Common.{◌≡◌, Bool, true, false}
use Rattle.std.specs.Prelude.{◌||◌}

-- of two, the other one
pub other_true : (a b : Bool) → a || b ≡ true → a ≡ false → b ≡ true
other_true true b e none = absurd cc
other_true false b e none = e
