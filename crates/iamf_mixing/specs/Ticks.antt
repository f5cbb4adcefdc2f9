-- The samples of a tick in rows of samples.
use Rattle.std.specs.Prelude.{ℕ, ℤ, List, map}
use Rattle.std.specs.List.{range_with_len}
use Rattle.iamf_bits.specs.Rows.{Rows, sample_of}

-- that of each row
abbrev pub tick_of : ℕ → Rows → List ℤ
tick_of n rows = map (λ c. sample_of rows c n) (range_with_len 0 rows.channels)
