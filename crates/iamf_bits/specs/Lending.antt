-- What planes end as after their samples were lent out.
use Rattle.std.specs.Prelude.{ℤ, List}
use Rattle.std.specs.Borrow.{Lends, MutBor, Fml, Array, i64}
use Rattle.iamf_bits.specs.Rows.{Rows, with_samples}
use Rattle.iamf_bits.specs.contracts.planes.Planes.{the_row}

-- the planes end with the last samples behind the reference
abbrev pub LendsSamples : MutBor Rows → MutBor (List ℤ) → Fml
LendsSamples s r = Lends the_row (Array i64 0) s r (with_samples s.now)
