-- Where the samples lie.
use Rattle.std.specs.Prelude.{ℕ, ◌+◌, ◌-◌, ◌*◌, ◌==◌, nat_le, Bool, true, ◌&&◌, if◌then◌else◌, List, [], ◌∷◌, ◌++◌, take, drop, replicate}
use Rattle.spec_boxes.specs.Tables.{words, longs, Run, runs_of}

-- a place and a size
abbrev pub Span : Type 0
Span = ℕ × ℕ

-- end to end from a place on
abbrev pub lay : ℕ → List ℕ → List Span
lay p [] = []
lay p (k ∷ ks) = (p, k) ∷ lay (p + k) ks

-- each chunk has its place and so many of the samples, whose sizes are these
abbrev pub spans : List ℕ → List ℕ → List ℕ → List Span
spans places counts [] = []
spans [] counts (k ∷ ks) = []
spans (p ∷ ps) [] (k ∷ ks) = []
spans (p ∷ ps) (c ∷ cs) (k ∷ ks) = lay p (take c (k ∷ ks)) ++ spans ps cs (drop c (k ∷ ks))

-- the sizes from sample s on, the places from chunk j on (from 0), and the runs from run r on
abbrev pub sizes_from : ℕ → ℕ → List ℕ → ℕ → List ℕ
sizes_from common n p s = if common == 0 then words 4 (n - s) p (12 + 4 * s) else replicate (n - s) common

abbrev pub places_from : Bool → ℕ → List ℕ → ℕ → List ℕ
places_from wide m p j = if wide then longs (m - j) p (8 + 8 * j) else words 4 (m - j) p (8 + 4 * j)

abbrev pub runs_from : ℕ → List ℕ → ℕ → List Run
runs_from n p r = runs_of (n - r) p (8 + 12 * r)

-- the samples lie in a file of so many bytes, and all together have at most as many as there is room
abbrev pub fit : ℕ → ℕ → List Span → Bool
fit len room [] = true
fit len room (s ∷ rest) = nat_le (s.0 + s.1) len && (nat_le s.1 room && fit len (room - s.1) rest)

-- the samples lie in a file of so many bytes
abbrev pub in_file : ℕ → List Span → Bool
in_file len [] = true
in_file len (s ∷ rest) = nat_le (s.0 + s.1) len && in_file len rest
