-- The canonical spelling of a header and its payload: each number in its shortest leb128
-- (IAMF 1.0.0, "OBU Header Syntax and Semantics" and "leb128()").
use Rattle.std.specs.Prelude.{ℕ, List, [], ◌∷◌, ◌++◌, length, Option, Some, None}
use Rattle.spec_bits.specs.Leb.{leb_bytes}
use Rattle.spec_obu.specs.declared.trim.Trim.{Trim}
use Rattle.spec_obu.specs.Header.{Head, first_byte}

abbrev pub canonical_trim : Option Trim → List ℕ
canonical_trim None = []
canonical_trim (Some t) = leb_bytes t.end ++ leb_bytes t.start

abbrev pub canonical_extension : Option (List ℕ) → List ℕ
canonical_extension None = []
canonical_extension (Some x) = leb_bytes (length x) ++ x

-- what `obu_size` counts
abbrev pub canonical_body : Head → List ℕ → List ℕ
canonical_body h payload = canonical_trim h.trim ++ (canonical_extension h.extension ++ payload)

unfoldable pub canonical_header : Head → List ℕ → List ℕ
canonical_header h payload = first_byte h ∷ leb_bytes (length (canonical_body h payload)) ++ canonical_body h payload
