-- Bytes that are cut into parts of some lengths are these parts, one after the other.
use Rattle.std.proofs.Common.{◌≡◌, ℕ, suc, List, [], ◌∷◌, ◌++◌, length, take, drop, sum, refl, ap, ◌∙◌, arith, length-drop}
use Rattle.std.specs.List.{flat_map}
use Rattle.std.proofs.lemmas.List.{length-take, take-append-drop}
use Rattle.spec_boxes.proofs.Rows.{sum-cons}
use Rattle.spec_files.specs.Pieces.{word}
use Rattle.spec_files.specs.MovieFile.{length_word}
use Rattle.mp4_file.specs.Slices.{cut}

pub length-cut : (lengths bytes : List ℕ) → length (cut lengths bytes) ≡ length lengths
length-cut [] bytes = refl
length-cut (n ∷ lengths) bytes = ap suc (length-cut lengths (drop n bytes))

pub joined-cut : (lengths bytes : List ℕ) → sum lengths ≡ length bytes → flat_map (λ (u : List ℕ). u) (cut lengths bytes) ≡ bytes
joined-cut [] [] all = refl
joined-cut [] (x ∷ xs) all = absurd (omega (arith, all))
joined-cut (n ∷ lengths) bytes all =
    ap (λ (rest : List ℕ). take n bytes ++ rest) (joined-cut lengths (drop n bytes) (omega (arith, all, sum-cons n lengths, length-drop n bytes)))
    ∙ take-append-drop n bytes

-- the words of the parts' lengths are those of the lengths
pub words-cut : (lengths bytes : List ℕ) → sum lengths ≡ length bytes → flat_map length_word (cut lengths bytes) ≡ flat_map word lengths
words-cut [] bytes all = refl
words-cut (n ∷ lengths) bytes all =
    let rest = words-cut lengths (drop n bytes) (omega (arith, all, sum-cons n lengths, length-drop n bytes)) in
    let first : length (take n bytes) ≡ n = omega (arith, length-take n bytes, all, sum-cons n lengths) in
    rw (first, rest) refl
