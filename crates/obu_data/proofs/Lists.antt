-- Lists that are seen as others.
use Rattle.std.proofs.Common.{◌≡◌, ℕ, ◌+◌, List, [], ◌∷◌, ◌++◌, length, sum, refl, ap, arith}
use Rattle.std.specs.List.{zip}
use Rattle.std.proofs.lemmas.List.Sums.{sum_by_push}

pub zip_push : {A B : Type 0} (xs : List A) (ys : List B) (x : A) (y : B) → length xs ≡ length ys → zip (xs ++ x ∷ []) (ys ++ y ∷ []) ≡ zip xs ys ++ (x, y) ∷ []
zip_push [] [] x y e = refl
zip_push [] (z ∷ ys) x y e = absurd (omega arith)
zip_push (w ∷ xs) [] x y e = absurd (omega arith)
zip_push {A} {B} (w ∷ xs) (z ∷ ys) x y e = ap (λ (ps : List (A × B)). (w, z) ∷ ps) (zip_push xs ys x y (omega arith))

pub sum_push : (xs : List ℕ) (x : ℕ) → sum (xs ++ x ∷ []) ≡ sum xs + x
sum_push xs x = sum_by_push (λ y. y) xs x
