-- What the plain descriptors of a type say, each with the tail of its payload.
use Rattle.std.specs.Prelude.{ℕ, if◌then◌else◌, List, [], map}
use Rattle.std.specs.List.{flat_map}
use Rattle.spec_values.specs.Content.{Content}
use Rattle.spec_values.specs.Value.{ObuValue}

abbrev pub with_tail : {X : Type 0} → (Content → List X) → ObuValue → List (X × List ℕ)
with_tail part o = if o.head.redundant then [] else map (λ x. (x, o.tail)) (part o.content)

unfoldable pub with_tails : {X : Type 0} → (Content → List X) → List ObuValue → List (X × List ℕ)
with_tails part s = flat_map (with_tail part) s
