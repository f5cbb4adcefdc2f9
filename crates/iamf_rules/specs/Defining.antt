-- No definitions: what is left where definitions are added before any block, for the prover.
use Rattle.std.specs.Prelude.{◌≡◌, ℕ, ◌||◌, List, map, fold, is_some}
use Rattle.std.specs.Ordering.{nat_cmp}
use Rattle.std.specs.BTreeMap.{get}
use Rattle.spec_blocks.specs.Shape.{Definition, with_definition}
use Rattle.spec_rules.specs.Units.{contains}
use Rattle.iamf_rules.specs.declared.blocks.Blocks.{Blocks}
use Rattle.iamf_rules.specs.BlockSteps.{no_block, slot_at}

abbrev pub ids_of : List Definition → List ℕ
ids_of ds = map (λ d. d.parameter_id) ds

pub record Defines (old new : Blocks) (ds : List Definition) : Type 0 where
  pub definitions_are : new.definitions ≡ fold with_definition old.definitions ds
  pub has : (id : ℕ) → is_some (get nat_cmp new.slots id) ≡ (is_some (get nat_cmp old.slots id) || contains (ids_of ds) id)
  pub none : ((id : ℕ) → slot_at old.slots id ≡ no_block) → (id : ℕ) → slot_at new.slots id ≡ no_block
