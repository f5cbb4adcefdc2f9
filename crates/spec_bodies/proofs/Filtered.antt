-- Lists of which some elements add nothing.
use Rattle.std.proofs.Common.{◌≡◌, Bool, true, false, cond, List, [], ◌∷◌, ◌++◌, refl, sym, ap, ◌∙◌, append-nil}
use Rattle.std.specs.List.{flat_map}
use Rattle.std.proofs.lemmas.Grind.{flat_map-append}

-- the elements that pass a test
abbrev pub if_passes : {A : Type 0} → (A → Bool) → A → List A
if_passes passes x = cond (passes x) (x ∷ []) []

abbrev pub filtered : {A : Type 0} → (A → Bool) → List A → List A
filtered passes xs = flat_map (if_passes passes) xs

-- what adds nothing may be left out
pub of_filtered : {A B : Type 0} (passes : A → Bool) (f : A → List B) → ((x : A) → passes x ≡ false → f x ≡ []) → (xs : List A) → flat_map f (filtered passes xs) ≡ flat_map f xs
of_filtered passes f none [] = refl
of_filtered {A} {B} passes f none (x ∷ xs) =
    flat_map-append f (if_passes passes x) (filtered passes xs)
    ∙ ap (λ (ys : List B). flat_map f (if_passes passes x) ++ ys) (of_filtered passes f none xs)
    ∙ ap (λ (ys : List B). ys ++ flat_map f xs) (one (passes x) refl)
  where
    one : (b : Bool) → passes x ≡ b → flat_map f (cond b (x ∷ []) []) ≡ f x
    one true e = append-nil (f x)
    one false e = sym (none x e)

pub same_filtered : {A B : Type 0} (passes : A → Bool) (f : A → List B) → ((x : A) → passes x ≡ false → f x ≡ []) → (xs ys : List A) → filtered passes xs ≡ filtered passes ys → flat_map f xs ≡ flat_map f ys
same_filtered passes f none xs ys same = sym (of_filtered passes f none xs) ∙ ap (flat_map f) same ∙ of_filtered passes f none ys

-- lists of lists of lists
pub flat_flat : {A B C : Type 0} (g : B → List C) (f : A → List B) (xs : List A) → flat_map g (flat_map f xs) ≡ flat_map (λ x. flat_map g (f x)) xs
flat_flat g f [] = refl
flat_flat {A} {B} {C} g f (x ∷ xs) = flat_map-append g (f x) (flat_map f xs) ∙ ap (λ (ys : List C). flat_map g (f x) ++ ys) (flat_flat g f xs)
