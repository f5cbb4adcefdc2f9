-- Sets of owned payloads, in whose order they are looked up.
use Rattle.std.specs.Prelude.{ℕ, Bool, false, List, Option, Some, None, Vec}
use Rattle.std.specs.Global.{Global}
use Rattle.std.specs.Ordering.{nat_cmp}
use Rattle.std.specs.Cmp.Lexicographic.{slice_cmp}
use Rattle.std.specs.BTreeSet.{BTreeSet, contains_by}

abbrev pub has_bytes : BTreeSet (Vec ℕ Global) → List ℕ → Bool
has_bytes set payload = contains_by (λ k. slice_cmp nat_cmp payload k.items) set

abbrev pub has_in : Option (BTreeSet (Vec ℕ Global)) → List ℕ → Bool
has_in None payload = false
has_in (Some set) payload = has_bytes set payload
