-- The bytes of canonical spellings in parts.
use Rattle.std.specs.Prelude.{ℕ, List, ◌++◌}
use Rattle.std.specs.List.{flat_map}
use Rattle.iamf_sequence.specs.declared.pieces.Part.{Part}

abbrev pub part_bytes : Part → List ℕ
part_bytes p = p.kept.now ++ p.anew.items

abbrev pub bytes_of : List Part → List ℕ
bytes_of parts = flat_map part_bytes parts
