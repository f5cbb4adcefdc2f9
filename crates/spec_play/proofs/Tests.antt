-- What a table without a fault says of its tests, and a test that holds of no item of a list of each.
use Rattle.std.proofs.Common.{◌≡◌, Bool, true, false, ◌||◌, ◌&&◌, List, [], ◌∷◌, Option, Some, None, refl}
use Rattle.std.specs.List.{list_any}
pub use Rattle.spec_descriptors.proofs.OnEach.{Each, each_and, each_front, each_back, each_both, each_like, each_flat_map, each_map, each_enumerated, each_found, each_at}
use Rattle.spec_play.specs.declared.fault.PlayFault.{PlayFault}
use Rattle.spec_play.specs.Selection.{when, first_of}

pub passes : (test : Bool) (fault : PlayFault) → when test fault ≡ None → test ≡ false
passes true fault e = absurd (cc)
passes false fault e = refl

pub neither : (a b : Bool) → (a || b) ≡ false → (a ≡ false) × (b ≡ false)
neither true b e = absurd (cc)
neither false b e = (refl, e)

pub second_false : (a b : Bool) → (a && b) ≡ false → a ≡ true → b ≡ false
second_false true b e h = e
second_false false b e h = absurd (cc)

pub each_false : {A : Type 0} (test : A → Bool) (xs : List A) → list_any test xs ≡ false → Each (λ x. test x ≡ false) xs
each_false test [] e = tt
each_false test (x ∷ xs) e = let both = neither (test x) (list_any test xs) e in (both.0, each_false test xs both.1)

pub all_pass : (rows : List (Option PlayFault)) → first_of rows ≡ None → Each (λ row. row ≡ None) rows
all_pass [] e = tt
all_pass (None ∷ rows) e = (refl, all_pass rows e)
all_pass (Some fault ∷ rows) e = absurd (cc)
