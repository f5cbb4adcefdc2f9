-- A movie has as many units as lengths of units, and their bytes are all of its data.
use Rattle.std.proofs.Common.{◌≡◌, ℕ, ◌+◌, Bool, true, false, List, length, refl, ap, ◌∙◌, arith}
use Rattle.std.specs.Prelude.{◌==◌}
use Rattle.std.specs.List.{flat_map}
use Rattle.spec_files.specs.Pieces.{word}
use Rattle.spec_files.specs.MovieFile.{count, all_units, length_word, rows}
use Rattle.mp4_file.specs.declared.movie.Movie.{Movie}
use Rattle.mp4_file.specs.Slices.{joined}
use Rattle.mp4_file.specs.Views.{movie_of}
use Rattle.mp4_file.proofs.Cuts.{length-cut, joined-cut, words-cut}

pub count_is : (m : Movie) → count (movie_of m) ≡ length m.unit_lengths.now
count_is m = length-cut m.unit_lengths.now (joined m.data.now)

pub none_is : (m : Movie) (t : Bool) → (length m.unit_lengths.now == 0) ≡ t → (count (movie_of m) == 0) ≡ t
none_is m t is = ap (λ (n : ℕ). n == 0) (count_is m) ∙ is

pub data_is : (m : Movie) → all_units (movie_of m) ≡ joined m.data.now
data_is m = joined-cut m.unit_lengths.now (joined m.data.now) m.whole

pub lengths_are : (m : Movie) → flat_map length_word (movie_of m).units ≡ flat_map word m.unit_lengths.now
lengths_are m = words-cut m.unit_lengths.now (joined m.data.now) m.whole

-- a count and a row
pub row_is : (t : Bool) (bytes : List ℕ) (n : ℕ) → t ≡ false → length bytes ≡ n → 16 + n ≡ 12 + length (rows t bytes)
row_is t bytes n is long = rw (is, ← long) (omega arith)

pub no_row : (t : Bool) (bytes : List ℕ) → t ≡ true → 16 ≡ 12 + length (rows t bytes)
no_row t bytes is = rw is refl
