-- The definitions that are kept, and where each is found.
use Rattle.std.specs.Prelude.{◌≡◌, ℕ, suc, List, [], ◌∷◌, map, Option, Some, None, option_map, ◌==◌, if◌then◌else◌}
use Rattle.std.specs.List.{All}
use Rattle.std.specs.Ordering.{nat_cmp}
use Rattle.std.specs.BTreeMap.{BTreeMap, get}
use Rattle.spec_blocks.specs.Shape.{Definition}
use Rattle.obu_data.specs.declared.definition.Definition.{Definition as Kept}
use Rattle.obu_data.specs.ShapeView.{view_shape, MayDefine}

abbrev pub view_definition : Kept → Definition
view_definition kept = record { parameter_id = kept.id; shape = view_shape kept.shape }

-- the place of the first definition of an id
abbrev pub place_of : List Definition → ℕ → Option ℕ
place_of [] id = None
place_of (d ∷ definitions) id = if d.parameter_id == id then Some 0 else option_map suc (place_of definitions id)

-- the map has the place of each id, and no other
pub record IsIndexed (kept : List Kept) (places : BTreeMap ℕ ℕ) : Type 0 where
  pub allowed : All (λ k. MayDefine k.shape) kept
  pub places_are : (id : ℕ) → get nat_cmp places id ≡ place_of (map view_definition kept) id
