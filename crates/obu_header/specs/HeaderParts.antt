-- The bytes of an OBU, part by part.
use Rattle.std.specs.Prelude.{ℕ, ◌<◌, ◌^◌, List, ◌++◌, Option, Some, None}
use Rattle.spec_obu.specs.declared.trim.Trim.{Trim}
use Rattle.obu_header.specs.declared.writing.HeaderBytes.{HeaderBytes}

abbrev pub parts_of : HeaderBytes → List ℕ → List ℕ → List ℕ → List ℕ
parts_of header extension front rest =
    header.first ++ (header.size ++ (header.trim_end ++ (header.trim_start ++ (header.extension_size ++ (extension ++ (front ++ rest))))))

-- each trim is a number that a leb128 spells
abbrev pub TrimsFit : Option Trim → Type 0
TrimsFit None = Unit {0}
TrimsFit (Some t) = (t.end < 2 ^ 32) × (t.start < 2 ^ 32)
