-- The tags of a mix presentation (IAMF 1.1.0, "mix_presentation_tags()"): where its tail begins with a byte n and 2n texts,
-- these are n tags, each a name and a value, and else it has none. The syntax of a mix presentation does not know them.
use Rattle.std.specs.Prelude.{◌≡◌, ℕ, zero, suc, List, [], ◌∷◌, ◌++◌, length, Option, Some, None, Result, Ok, Err}
use Rattle.std.specs.List.{flat_map}
use Rattle.spec_bits.specs.declared.FieldFault.{FieldFault}
use Rattle.spec_bits.specs.Text.{IsText}
use Rattle.spec_bits.specs.ByteReading.{◌>>=◌, text_at}

pub record Tag : Type 0 where
  pub name : List ℕ
  pub value : List ℕ

-- the bytes spell the tags, one after the other
abbrev pub AreTags : List Tag → List ℕ → Type 0
AreTags [] b = b ≡ []
AreTags (t ∷ ts) b = (name : List ℕ) × (value : List ℕ) × (rest : List ℕ) × IsText t.name name × IsText t.value value × AreTags ts rest × (b ≡ name ++ (value ++ rest))

-- The tail is the number of tags, the tags and then the rest.
pub record HasTags (tags : List Tag) (rest tail : List ℕ) : Type 0 where
  pub bytes : List ℕ
  pub are : AreTags tags bytes
  pub parts : tail ≡ length tags ∷ bytes ++ rest

-- ---- reading

-- so many tags from the front of the bytes, and the bytes after them
unfoldable pub tags_at : ℕ → List ℕ → Result (List Tag × List ℕ) FieldFault
tags_at zero bytes = Ok ([], bytes)
tags_at (suc n) bytes = do
  name ← text_at bytes
  value ← text_at name.1
  tags ← tags_at n value.1
  Ok (record { name = name.0; value = value.0 } ∷ tags.0, tags.1)

abbrev pub some_of : {X F : Type 0} → Result X F → Option X
some_of (Ok x) = Some x
some_of (Err f) = None

-- the tags and the bytes after them
abbrev pub tags_of : List ℕ → Option (List Tag × List ℕ)
tags_of [] = None
tags_of (count ∷ bytes) = some_of (tags_at count bytes)

-- ---- writing

-- its name and its value can be spelled
abbrev pub IsTag : Tag → Type 0
IsTag t = IsText t.name (t.name ++ 0 ∷ []) × IsText t.value (t.value ++ 0 ∷ [])

abbrev pub tag_bytes : Tag → List ℕ
tag_bytes t = (t.name ++ 0 ∷ []) ++ (t.value ++ 0 ∷ [])

-- the tail that has the tags and then the rest
abbrev pub tail_with : List Tag → List ℕ → List ℕ
tail_with tags rest = length tags ∷ flat_map tag_bytes tags ++ rest
