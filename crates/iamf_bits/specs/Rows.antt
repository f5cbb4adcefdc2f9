-- Rows of samples, as callers of planes see them.
use Rattle.std.specs.Prelude.{ℕ, ◌+◌, ◌*◌, ℤ, pos, List, ◌++◌, length, take, drop, slice_index_or, slice_set}

-- so many rows of so many samples, all samples of a row before those of the next
pub record Rows : Type 0 where
  pub channels : ℕ
  pub length : ℕ
  pub samples : List ℤ

-- the samples of a channel
abbrev pub row_of : Rows → ℕ → List ℤ
row_of rows c = take rows.length (drop (c * rows.length) rows.samples)

-- sample n of channel c
abbrev pub sample_of : Rows → ℕ → ℕ → ℤ
sample_of rows c n = slice_index_or rows.samples (c * rows.length + n) (pos 0)

-- the rows with another value there
abbrev pub with_sample : Rows → ℕ → ℕ → ℤ → Rows
with_sample rows c n z = record rows { samples = slice_set rows.samples (c * rows.length + n) z }

-- the rows with these samples in place of the first
abbrev pub with_samples : Rows → List ℤ → Rows
with_samples rows zs = record rows { samples = take (rows.channels * rows.length) (zs ++ drop (length zs) rows.samples) }
