-- No definitions: maps and sets of ids beside lists of them, for the prover.
use Rattle.std.specs.Prelude.{◌≡◌, ℕ, List, is_some}
use Rattle.std.specs.Ordering.{nat_cmp}
use Rattle.std.specs.BTreeMap.{BTreeMap, get}
use Rattle.std.specs.BTreeSet.{BTreeSet}
use Rattle.std.specs.BTreeSet as set
use Rattle.spec_rules.specs.Units.{contains}

-- the ids of the list are keys of the map, and no other
abbrev pub HasAll : {V : Type 0} → BTreeMap ℕ V → List ℕ → Type 0
HasAll {V} m ids = (id : ℕ) → is_some (get nat_cmp m id) ≡ contains ids id

-- the set has the ids of the list, and no other
abbrev pub HasIds : BTreeSet ℕ → List ℕ → Type 0
HasIds known ids = (id : ℕ) → set.contains nat_cmp known id ≡ contains ids id
