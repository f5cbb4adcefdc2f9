-- Searches through a list from its front, one item after the other.
use Rattle.std.proofs.Common.{arith, ◌≡◌, ◌<◌, ◌≤◌, ◌+◌, ℕ, zero, suc, refl, sym, ap, ◌∙◌, Bool, true, false, ◌||◌, List, [], ◌∷◌, ◌++◌, take, length, get_or, add-one, Some, None}
use Rattle.std.specs.Prelude.{slice_get, find}
use Rattle.std.specs.List.{list_any, flat_map}
use Rattle.std.proofs.lemmas.List.{take_all}

pub got : {X : Type 0} (xs : List X) (i : ℕ) (x : X) → i < length xs → x ≡ get_or xs i x → slice_get xs i ≡ Some x
got [] i x h e = absurd (omega arith)
got (y ∷ xs) zero x h e = ap (λ z. Some z) (sym e)
got (y ∷ xs) (suc i) x h e = got xs i x (omega arith) e

either_false : (a b : Bool) → a ≡ false → b ≡ false → (a || b) ≡ false
either_false true b e f = absurd (cc)
either_false false b e f = f

left_false : (a b : Bool) → (a || b) ≡ false → a ≡ false
left_false true b e = absurd (cc)
left_false false b e = refl

right_false : (a b : Bool) → (a || b) ≡ false → b ≡ false
right_false true b e = absurd (cc)
right_false false b e = e

-- ---- whether an item passes

pub any_here : {X : Type 0} (p : X → Bool) (xs : List X) (i : ℕ) (x : X) → slice_get xs i ≡ Some x → p x ≡ true → true ≡ list_any p xs
any_here p [] i x e h = absurd (cc)
any_here p (y ∷ xs) zero x e h = let same : y ≡ x = cc in rw (same, h) refl
any_here p (y ∷ xs) (suc i) x e h = let rest = any_here p xs i x e h in elim (p y) as (λ b. true ≡ (b || list_any p xs)) [ true ↦ refl | false ↦ rest ]

any_next_suc : {X : Type 0} (p : X → Bool) (xs : List X) (i : ℕ) (x : X) → list_any p (take i xs) ≡ false → slice_get xs i ≡ Some x → p x ≡ false → list_any p (take (suc i) xs) ≡ false
any_next_suc p [] i x before e h = absurd (cc)
any_next_suc p (y ∷ xs) zero x before e h = let same : y ≡ x = cc in rw (same, h) refl
any_next_suc p (y ∷ xs) (suc i) x before e h =
    either_false (p y) (list_any p (take (suc i) xs)) (left_false (p y) (list_any p (take i xs)) before)
    (any_next_suc p xs i x (right_false (p y) (list_any p (take i xs)) before) e h)

pub any_next : {X : Type 0} (p : X → Bool) (xs : List X) (i : ℕ) (x : X) → list_any p (take i xs) ≡ false → slice_get xs i ≡ Some x → p x ≡ false → list_any p (take (i + 1) xs) ≡ false
any_next p xs i x before e h = rw add-one (any_next_suc p xs i x before e h)

pub any_end : {X : Type 0} (p : X → Bool) (xs : List X) (i : ℕ) → length xs ≤ i → list_any p (take i xs) ≡ false → false ≡ list_any p xs
any_end p xs i h none = sym (ap (list_any p) (sym (take_all i xs h)) ∙ none)

-- ---- the first item that passes

pub find_here : {X : Type 0} (p : X → Bool) (xs : List X) (i : ℕ) (x : X) → list_any p (take i xs) ≡ false → slice_get xs i ≡ Some x → p x ≡ true → find p xs ≡ Some x
find_here p [] i x before e h = absurd (cc)
find_here p (y ∷ xs) zero x before e h = let same : y ≡ x = cc in rw (same, h) refl
find_here p (y ∷ xs) (suc i) x before e h =
    let other : p y ≡ false = left_false (p y) (list_any p (take i xs)) before in
    rw other (find_here p xs i x (right_false (p y) (list_any p (take i xs)) before) e h)

find_none : {X : Type 0} (p : X → Bool) (xs : List X) → list_any p xs ≡ false → find p xs ≡ None
find_none p [] e = refl
find_none p (y ∷ xs) e = let other : p y ≡ false = left_false (p y) (list_any p xs) e in rw other (find_none p xs (right_false (p y) (list_any p xs) e))

pub find_end : {X : Type 0} (p : X → Bool) (xs : List X) (i : ℕ) → length xs ≤ i → list_any p (take i xs) ≡ false → find p xs ≡ None
find_end p xs i h none = find_none p xs (sym (any_end p xs i h none))

-- ---- whether an item of the lists of each item passes

any_joined : {X : Type 0} (p : X → Bool) (xs ys : List X) → list_any p (xs ++ ys) ≡ (list_any p xs || list_any p ys)
any_joined p [] ys = refl
any_joined p (x ∷ xs) ys = elim (p x) as (λ b. (b || list_any p (xs ++ ys)) ≡ ((b || list_any p xs) || list_any p ys)) [ true ↦ refl | false ↦ any_joined p xs ys ]

pub any_of_here : {X Y : Type 0} (p : Y → Bool) (f : X → List Y) (xs : List X) (i : ℕ) (x : X) → slice_get xs i ≡ Some x → list_any p (f x) ≡ true → true ≡ list_any p (flat_map f xs)
any_of_here p f [] i x e h = absurd (cc)
any_of_here p f (y ∷ xs) zero x e h = let same : y ≡ x = cc in sym (any_joined p (f y) (flat_map f xs) ∙ rw (same, h) refl)
any_of_here p f (y ∷ xs) (suc i) x e h =
    let rest = any_of_here p f xs i x e h in
    let both : true ≡ (list_any p (f y) || list_any p (flat_map f xs)) = elim (list_any p (f y)) as (λ b. true ≡ (b || list_any p (flat_map f xs))) [ true ↦ refl | false ↦ rest ] in
    both ∙ sym (any_joined p (f y) (flat_map f xs))

any_of_next_suc : {X Y : Type 0} (p : Y → Bool) (f : X → List Y) (xs : List X) (i : ℕ) (x : X) → list_any p (flat_map f (take i xs)) ≡ false → slice_get xs i ≡ Some x → list_any p (f x) ≡ false
    → list_any p (flat_map f (take (suc i) xs)) ≡ false
any_of_next_suc p f [] i x before e h = absurd (cc)
any_of_next_suc p f (y ∷ xs) zero x before e h = let same : y ≡ x = cc in any_joined p (f y) [] ∙ rw (same, h) refl
any_of_next_suc p f (y ∷ xs) (suc i) x before e h =
    let split = sym (any_joined p (f y) (flat_map f (take i xs))) ∙ before in
    any_joined p (f y) (flat_map f (take (suc i) xs))
    ∙ either_false (list_any p (f y)) (list_any p (flat_map f (take (suc i) xs))) (left_false (list_any p (f y)) (list_any p (flat_map f (take i xs))) split)
    (any_of_next_suc p f xs i x (right_false (list_any p (f y)) (list_any p (flat_map f (take i xs))) split) e h)

pub any_of_next : {X Y : Type 0} (p : Y → Bool) (f : X → List Y) (xs : List X) (i : ℕ) (x : X) → list_any p (flat_map f (take i xs)) ≡ false → slice_get xs i ≡ Some x → list_any p (f x) ≡ false
    → list_any p (flat_map f (take (i + 1) xs)) ≡ false
any_of_next p f xs i x before e h = rw add-one (any_of_next_suc p f xs i x before e h)

pub any_of_end : {X Y : Type 0} (p : Y → Bool) (f : X → List Y) (xs : List X) (i : ℕ) → length xs ≤ i → list_any p (flat_map f (take i xs)) ≡ false → false ≡ list_any p (flat_map f xs)
any_of_end p f xs i h none = sym (ap (λ ys. list_any p (flat_map f ys)) (sym (take_all i xs h)) ∙ none)
