-- What holds of the tags of a mix presentation.
use Rattle.std.specs.Prelude.{◌≡◌, ◌↔◌, ℕ, List, Some, All}
use Rattle.spec_descriptors.specs.Tags.{Tag, IsTag, HasTags, tags_of, tail_with}

-- reading answers the tags of a tail, and the rest
abbrev pub TagsAreRead : Type 0
TagsAreRead = (tail : List ℕ) (tags : List Tag) (rest : List ℕ) → (tags_of tail ≡ Some (tags, rest)) ↔ HasTags tags rest tail

abbrev pub OneListOfTags : Type 0
OneListOfTags = (tail : List ℕ) (tags others : List Tag) (rest more : List ℕ) → HasTags tags rest tail → HasTags others more tail → (tags ≡ others) × (rest ≡ more)

-- what is written has the tags
abbrev pub WrittenHasTags : Type 0
WrittenHasTags = (tags : List Tag) (rest : List ℕ) → All IsTag tags → HasTags tags rest (tail_with tags rest)

-- and nothing else has them
abbrev pub TagsAreWritten : Type 0
TagsAreWritten = (tail : List ℕ) (tags : List Tag) (rest : List ℕ) → HasTags tags rest tail → tail ≡ tail_with tags rest
