-- The lists of descriptors, with one more OBU.
use Rattle.std.proofs.Common.{◌≡◌, List, [], ◌∷◌, ◌++◌, ap, ◌∙◌}
use Rattle.std.specs.Prelude.{fold}
use Rattle.std.specs.List.{flat_map}
use Rattle.std.proofs.lemmas.Grind.{flat_map-append, fold-append}
use Rattle.spec_rules.specs.Role.{Role}
use Rattle.spec_blocks.specs.Shape.{with_definition}
use Rattle.spec_rules.specs.Descriptors.{profile_of, codec_of, element_of, mix_of, substreams_of, definitions_of, profiles, codecs, elements, mixes, substreams, first_length, frame_length, definitions}
use Rattle.spec_rules.proofs.Basics.{flat_map-push, flat_map-push_none}

pub profiles-append : (l m : List Role) → profiles (l ++ m) ≡ profiles l ++ profiles m
unfolding profiles
profiles-append l m = flat_map-append profile_of l m

pub codecs-append : (l m : List Role) → codecs (l ++ m) ≡ codecs l ++ codecs m
unfolding codecs
codecs-append l m = flat_map-append codec_of l m

pub profiles-push : (l : List Role) (o : Role) → profiles (l ++ o ∷ []) ≡ profiles l ++ profile_of o
unfolding profiles
profiles-push l o = flat_map-push profile_of l o

pub codecs-push : (l : List Role) (o : Role) → codecs (l ++ o ∷ []) ≡ codecs l ++ codec_of o
unfolding codecs
codecs-push l o = flat_map-push codec_of l o

pub elements-push : (l : List Role) (o : Role) → elements (l ++ o ∷ []) ≡ elements l ++ element_of o
unfolding elements
elements-push l o = flat_map-push element_of l o

pub mixes-push : (l : List Role) (o : Role) → mixes (l ++ o ∷ []) ≡ mixes l ++ mix_of o
unfolding mixes
mixes-push l o = flat_map-push mix_of l o

pub substreams-more : (l : List Role) (o : Role) → substreams (l ++ o ∷ []) ≡ substreams l ++ substreams_of o
unfolding substreams
substreams-more l o = flat_map-push substreams_of l o

pub definitions_after : (l : List Role) (o : Role) → definitions (l ++ o ∷ []) ≡ fold with_definition (definitions l) (definitions_of o)
unfolding definitions
definitions_after l o = ap (fold with_definition []) (flat_map-push definitions_of l o) ∙ fold-append with_definition [] (flat_map definitions_of l) (definitions_of o)

-- ---- one that adds nothing

pub profiles-push_none : (l : List Role) (o : Role) → profile_of o ≡ [] → profiles (l ++ o ∷ []) ≡ profiles l
unfolding profiles
profiles-push_none l o none = flat_map-push_none profile_of l o none

pub codecs-push_none : (l : List Role) (o : Role) → codec_of o ≡ [] → codecs (l ++ o ∷ []) ≡ codecs l
unfolding codecs
codecs-push_none l o none = flat_map-push_none codec_of l o none

pub elements-push_none : (l : List Role) (o : Role) → element_of o ≡ [] → elements (l ++ o ∷ []) ≡ elements l
unfolding elements
elements-push_none l o none = flat_map-push_none element_of l o none

pub mixes-push_none : (l : List Role) (o : Role) → mix_of o ≡ [] → mixes (l ++ o ∷ []) ≡ mixes l
unfolding mixes
mixes-push_none l o none = flat_map-push_none mix_of l o none

pub substreams-push : (l : List Role) (o : Role) → substreams_of o ≡ [] → substreams (l ++ o ∷ []) ≡ substreams l
unfolding substreams
substreams-push l o none = flat_map-push_none substreams_of l o none

pub frame_length-push : (l : List Role) (o : Role) → codec_of o ≡ [] → frame_length (l ++ o ∷ []) ≡ frame_length l
unfolding frame_length
frame_length-push l o none = ap first_length (codecs-push_none l o none)

pub definitions-push : (l : List Role) (o : Role) → definitions_of o ≡ [] → definitions (l ++ o ∷ []) ≡ definitions l
unfolding definitions
definitions-push l o none = ap (λ ds. fold with_definition [] ds) (flat_map-push_none definitions_of l o none)
