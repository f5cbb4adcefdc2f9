-- The boxes that a rule names among those of a part.
use Rattle.std.specs.Prelude.{ℕ, ◌+◌, nat_eq, Bool, false, ◌||◌, List, [], ◌∷◌, find, Option, Some, None, Result, Ok}
use Rattle.std.specs.Cmp.Lexicographic.{pointwise}
use Rattle.spec_boxes.specs.declared.fault.BoxFault.TheVariants.{Missing, Twice, Fragmented}
use Rattle.spec_boxes.specs.declared.fault.BoxRefusal.{BoxRefusal}
use Rattle.spec_boxes.specs.Boxes.{Box, tiles, refuse}

abbrev pub kind_is : List ℕ → Box → Bool
kind_is kind b = pointwise nat_eq b.kind kind

abbrev pub either_is : List ℕ → List ℕ → Box → Bool
either_is kind other b = kind_is kind b || kind_is other b

-- of all boxes that a rule may take there is one
abbrev pub exactly_one : ℕ → List ℕ → List Box → Result Box BoxRefusal
exactly_one place kind [] = refuse place (Missing kind)
exactly_one place kind (b ∷ []) = Ok b
exactly_one place kind (b ∷ second ∷ more) = refuse second.at (Twice kind)

abbrev pub fragment : Option Box → Result (Unit {0}) BoxRefusal
fragment None = Ok tt
fragment (Some b) = refuse b.at Fragmented

-- none is of the kind
abbrev pub none_of : List ℕ → List Box → Result (Unit {0}) BoxRefusal
none_of kind bs = fragment (find (kind_is kind) bs)

-- the boxes that cover a box's payload from a byte of it on
abbrev pub children : List ℕ → Box → ℕ → Result (List Box) BoxRefusal
children f b skip = tiles false f (b.start + skip) b.end
