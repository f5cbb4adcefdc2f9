-- Steps along a list of ids.
use Rattle.std.proofs.Common.{◌≡◌, ℕ, ◌+◌, ◌<◌, ◌≤◌, true, false, ◌||◌, List, [], ◌∷◌, ◌++◌, length, get_or, take, drop, map, refl, sym, ap, ◌∙◌, subst, append_assoc, drop-cons, add-one, arith}
use Rattle.std.proofs.lemmas.List.{take_more, get_or-map}
use Rattle.std.proofs.lemmas.List.{length-map}
use Rattle.std.proofs.lemmas.Grind.{common_steps}
use Rattle.std.proofs.lemmas.List.Folds.{list_any-append}
use Rattle.spec_rules.specs.Units.{contains}
use Rattle.spec_rules.specs.Rules.{repeated, unknown}

pub contains-push : (xs : List ℕ) (x id : ℕ) → contains (xs ++ x ∷ []) id ≡ (contains xs id || (contains (x ∷ []) id))
contains-push xs x id = list_any-append _ xs (x ∷ [])

pub contains-take : (ids : List ℕ) (i id : ℕ) → i < length ids → contains (take (i + 1) ids) id ≡ (contains (take i ids) id || contains (get_or ids i 0 ∷ []) id)
contains-take ids i id below = rw (take_more ids i 0 below) (contains-push (take i ids) (get_or ids i 0) id)

pub rest_at : {X : Type 0} (xs : List X) (i : ℕ) (d : X) → i < length xs → drop i xs ≡ get_or xs i d ∷ drop (i + 1) xs
rest_at xs i d below = rw (add-one i) (drop-cons xs i d below)

pub repeated-step : (known ids : List ℕ) (i : ℕ) → i < length ids → contains (known ++ take i ids) (get_or ids i 0) ≡ false
    → repeated (known ++ take i ids) (drop i ids) ≡ repeated (known ++ take (i + 1) ids) (drop (i + 1) ids)
repeated-step known ids i below new = rw (rest_at ids i 0 below, new, take_more ids i 0 below, append_assoc) refl

pub unknown-step : (known ids : List ℕ) (i : ℕ) → i < length ids → contains known (get_or ids i 0) ≡ true
    → unknown known (drop i ids) ≡ unknown known (drop (i + 1) ids)
unknown-step known ids i below old = rw (rest_at ids i 0 below, old) refl

-- ---- steps along a list of what others stand for

pub mapped-length : {X Y : Type 0} (f : X → Y) (xs : List X) (i : ℕ) → i < length xs → i < length (map f xs)
mapped-length f xs i below = subst (λ (n : ℕ). i < n) (sym (length-map xs f)) below

mapped-at : {X Y : Type 0} (f : X → Y) (xs : List X) (i : ℕ) (x : X) → i < length xs → x ≡ get_or xs i x → get_or (map f xs) i (f x) ≡ f x
mapped-at f xs i x below is = get_or-map f xs i x (f x) below ∙ ap f (sym is)

pub mapped-take : {X Y : Type 0} (f : X → Y) (xs : List X) (i : ℕ) (x : X) → i < length xs → x ≡ get_or xs i x → take (i + 1) (map f xs) ≡ take i (map f xs) ++ f x ∷ []
mapped-take {X} {Y} f xs i x below is = take_more (map f xs) i (f x) (mapped-length f xs i below) ∙ ap (λ (y : Y). take i (map f xs) ++ y ∷ []) (mapped-at f xs i x below is)

pub mapped-drop : {X Y : Type 0} (f : X → Y) (xs : List X) (i : ℕ) (x : X) → i < length xs → x ≡ get_or xs i x → drop i (map f xs) ≡ f x ∷ drop (i + 1) (map f xs)
mapped-drop {X} {Y} f xs i x below is = rest_at (map f xs) i (f x) (mapped-length f xs i below) ∙ ap (λ (y : Y). y ∷ drop (i + 1) (map f xs)) (mapped-at f xs i x below is)

pub mapped-all : {X Y : Type 0} (f : X → Y) (xs : List X) (i : ℕ) → length xs ≤ i → (take i (map f xs) ≡ map f xs) × (drop i (map f xs) ≡ [])
mapped-all f xs i all = let long : length (map f xs) ≤ i = subst (λ (n : ℕ). n ≤ i) (sym (length-map xs f)) all in (grind (arith, common_steps), grind (arith, common_steps))
