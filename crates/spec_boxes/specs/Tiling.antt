-- Where a box stands, and when boxes tile a part of a file (ISO/IEC 14496-12, "Object Structure").
use Rattle.std.specs.Prelude.{◌≡◌, ℕ, ◌+◌, ◌-◌, ◌<◌, ◌≤◌, Bool, true, List, [], ◌∷◌, Ok, Err}
use Rattle.spec_boxes.specs.declared.fault.BoxFault.TheVariants.{BoxSize}
use Rattle.spec_boxes.specs.declared.fault.BoxRefusal.{BoxRefusal}
use Rattle.spec_boxes.specs.Bytes.{word_at, long_at, kind_at}
use Rattle.spec_boxes.specs.Boxes.{Box, tiles}

-- The size of a box is a word, or two where the word is 1, or to the end of the file where it is 0.
pub data IsSized (top : Bool) (f : List ℕ) (b : Box) (end : ℕ) : Type 0 where
  Short : b.start ≡ b.at + 8 → word_at f b.at ≡ b.end - b.at → IsSized top f b end
  Long : b.start ≡ b.at + 16 → word_at f b.at ≡ 1 → long_at f (b.at + 8) ≡ b.end - b.at → IsSized top f b end
  ToEnd : b.start ≡ b.at + 8 → word_at f b.at ≡ 0 → top ≡ true → b.end ≡ end → IsSized top f b end

-- a box stands in a part that ends at `end`
pub record Stands (top : Bool) (f : List ℕ) (end : ℕ) (b : Box) : Type 0 where
  pub sized : IsSized top f b end
  pub header : b.start ≤ b.end
  pub within : b.end ≤ end
  pub named : kind_at f (b.at + 4) ≡ b.kind

-- no box stands at a place of a part, as the refusal says
abbrev pub NoneStands : Bool → List ℕ → ℕ → ℕ → BoxRefusal → Type 0
NoneStands top f at end e = (e ≡ record { at = at; fault = BoxSize }) × ((b : Box) → b.at ≡ at → Stands top f end b → ⊥)

-- boxes of a part stand end to end from a place to another
abbrev pub EndToEnd : Bool → List ℕ → ℕ → ℕ → ℕ → List Box → Type 0
EndToEnd top f at stop end [] = at ≡ stop
EndToEnd top f at stop end (b ∷ bs) = (b.at ≡ at) × Stands top f end b × EndToEnd top f b.end stop end bs

-- boxes tile a part: they stand end to end from its start to its end
abbrev pub Tile : Bool → List ℕ → ℕ → ℕ → List Box → Type 0
Tile top f at end bs = EndToEnd top f at end end bs

-- boxes stand end to end up to a place in the part where none stands
pub record Stop (top : Bool) (f : List ℕ) (at end place : ℕ) : Type 0 where
  pub boxes : List Box
  pub are : EndToEnd top f at place end boxes
  pub before : place < end
  pub none : (b : Box) → b.at ≡ place → Stands top f end b → ⊥

-- reading the boxes of a part
pub record Tiling (top : Bool) (f : List ℕ) (at end : ℕ) : Type 0 where
  pub reads : (bs : List Box) → tiles top f at end ≡ Ok bs → Tile top f at end bs
  pub again : (bs : List Box) → Tile top f at end bs → tiles top f at end ≡ Ok bs
  pub fails : (e : BoxRefusal) → tiles top f at end ≡ Err e → (e ≡ record { at = e.at; fault = BoxSize }) × Stop top f at end e.at
  pub stops : (place : ℕ) → Stop top f at end place → tiles top f at end ≡ Err (record { at = place; fault = BoxSize })

abbrev pub PartsTile : Type 0
PartsTile = (top : Bool) (f : List ℕ) (at end : ℕ) → at ≤ end → Tiling top f at end
