-- The file of a sequence in parts.
use Rattle.std.specs.Prelude.{◌≡◌, ◌+◌, ℕ, List, ◌++◌, length}
use Rattle.std.specs.List.{flat_map}
use Rattle.spec_bodies.specs.SequenceBody.{HasSequenceBody}
use Rattle.mp4_file.specs.Slices.{joined}
use Rattle.iamf_mux.specs.Ranges.{AreRanges, parts}
use Rattle.iamf_mux.specs.declared.muxing.FileParts.{FileParts}

-- the bytes of the file
abbrev pub file_of : FileParts → List ℕ
file_of p = p.front.items ++ joined p.units.items

-- The bytes are a sequence, and the second part is the data of its units, one after the other, and nothing else.
abbrev pub HasItsUnits : List ℕ → FileParts → Type 0
HasItsUnits bytes p = (d : List ℕ) × (u : List (List ℕ)) × HasSequenceBody bytes d u × (joined p.units.items ≡ flat_map (λ (unit : List ℕ). unit) u)

-- The slices of the second part are ranges of the bytes, as long as can be.
abbrev pub LiesIn : List ℕ → FileParts → Type 0
LiesIn bytes p = AreRanges bytes 0 (parts p.units.items) (length bytes + 1)
