-- What is added to.
use Rattle.std.specs.Prelude.{ℤ, pos, Bool, if◌then◌else◌}

-- what stood there, or 0 where the sums are fresh
abbrev pub base : Bool → ℤ → ℤ
base fresh z = if fresh then pos 0 else z
