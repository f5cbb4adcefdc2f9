-- The tags that a record has, and what reading and writing them gives.
use Rattle.std.specs.Prelude.{◌≡◌, ℕ, ◌≤◌, List, [], ◌∷◌, ◌++◌, length, Option, Some, None, option_map, Result, Ok, Err}
use Rattle.std.specs.List.{All, flat_map}
use Rattle.spec_bits.specs.declared.FieldFault.{FieldFault}
use Rattle.spec_descriptors.specs.Tags as fields
use Rattle.spec_descriptors.specs.Tags.{IsTag, tag_bytes, tags_of}
use Rattle.obu_mix.specs.declared.tag.Tag.{Tag}

abbrev pub view_tag : Tag → fields.Tag
view_tag t = record { name = t.name.now; value = t.value.now }

-- what was read are the tags, and this is left, unless memory ran out
abbrev pub GivesTags : {V E : Type 0} → (V → List fields.Tag) → Result (Option V) E → List ℕ → Result (List fields.Tag × List ℕ) FieldFault → Type 0
GivesTags view (Ok (Some ts)) left read = read ≡ Ok (view ts, left)
GivesTags view (Ok None) left read = (f : FieldFault) × (read ≡ Err f)
GivesTags view (Err e) left read = Unit {0}

-- the count and the tags, as they stand at the front of a tail, or nothing
abbrev pub tags_bytes : Option (List fields.Tag) → List ℕ
tags_bytes None = []
tags_bytes (Some tags) = length tags ∷ flat_map tag_bytes tags

-- The tail is these tags and this rest, and is read so. Without tags it is the rest, which is not read as any.
pub record IsTagged (tags : Option (List fields.Tag)) (rest tail : List ℕ) : Type 0 where
  pub parts : tail ≡ tags_bytes tags ++ rest
  pub reads : tags_of tail ≡ option_map (λ (ts : List fields.Tag). (ts, rest)) tags

-- The tags can be written so that they are read again: at most 255 of texts, or none before a rest that is not read as any.
abbrev pub CanBeTagged : Option (List fields.Tag) → List ℕ → Type 0
CanBeTagged None rest = tags_of rest ≡ None
CanBeTagged (Some tags) rest = (length tags ≤ 255) × All IsTag tags
