-- What holds of each item of a list.
use Rattle.std.proofs.Common.{arith, ◌<◌, ◌+◌, ℕ, zero, suc, length, map, slice_index_or, Bool, List, [], ◌∷◌, ◌++◌, Some, if◌then◌else◌, true, false}
use Rattle.std.specs.Prelude.{IfSome}
use Rattle.std.specs.List.{All, flat_map, enumerate_from, find}
use Rattle.std.proofs.lemmas.List.Elements.{All-nil, All-cons}

-- P of each item
abbrev pub Each : {A : Type 0} → (A → Type 0) → List A → Type 0
Each P [] = Unit {0}
Each P (x ∷ xs) = P x × Each P xs

pub each_and : {A : Type 0} (P Q : A → Type 0) (xs : List A) → Each P xs → Each Q xs → Each (λ x. P x × Q x) xs
each_and P Q [] p q = tt
each_and P Q (x ∷ xs) p q = ((p.0, q.0), each_and P Q xs p.1 q.1)

pub each_front : {A : Type 0} (P : A → Type 0) (xs ys : List A) → Each P (xs ++ ys) → Each P xs
each_front P [] ys p = tt
each_front P (x ∷ xs) ys p = (p.0, each_front P xs ys p.1)

pub each_back : {A : Type 0} (P : A → Type 0) (xs ys : List A) → Each P (xs ++ ys) → Each P ys
each_back P [] ys p = p
each_back P (x ∷ xs) ys p = each_back P xs ys p.1

pub each_both : {A : Type 0} (P : A → Type 0) (xs ys : List A) → Each P xs → Each P ys → Each P (xs ++ ys)
each_both P [] ys p q = q
each_both P (x ∷ xs) ys p q = (p.0, each_both P xs ys p.1 q)

pub each_like : {A : Type 0} (P Q : A → Type 0) → ((x : A) → P x → Q x) → (xs : List A) → Each P xs → Each Q xs
each_like P Q f [] p = tt
each_like P Q f (x ∷ xs) p = (f x p.0, each_like P Q f xs p.1)

pub each_flat_map : {A B : Type 0} (P : B → Type 0) (f : A → List B) (xs : List A) → Each (λ x. Each P (f x)) xs → Each P (flat_map f xs)
each_flat_map P f [] p = tt
each_flat_map P f (x ∷ xs) p = each_both P (f x) (flat_map f xs) p.0 (each_flat_map P f xs p.1)

pub each_map : {A B : Type 0} (P : B → Type 0) (f : A → B) (xs : List A) → Each (λ x. P (f x)) xs → Each P (map f xs)
each_map P f [] p = tt
each_map P f (x ∷ xs) p = (p.0, each_map P f xs p.1)

pub each_enumerated : {A : Type 0} (P : A → Type 0) (n : ℕ) (xs : List A) → Each P xs → Each (λ (p : ℕ × A). P p.1) (enumerate_from n xs)
each_enumerated P n [] p = tt
each_enumerated P n (x ∷ xs) p = (p.0, each_enumerated P (n + 1) xs p.1)

pub each_found : {A : Type 0} (P : A → Type 0) (test : A → Bool) (xs : List A) → Each P xs → IfSome (find test xs) P
each_found P test [] p = tt
each_found P test (x ∷ xs) p = elim (test x) as (λ b. IfSome (if b then Some x else find test xs) P) [ true ↦ p.0 | false ↦ each_found P test xs p.1 ]

pub each_at : {A : Type 0} (P : A → Type 0) (xs : List A) (i : ℕ) (d : A) → i < length xs → Each P xs → P (slice_index_or xs i d)
each_at P [] i d h p = absurd (omega arith)
each_at P (x ∷ xs) zero d h p = p.0
each_at P (x ∷ xs) (suc i) d h p = each_at P xs i d (omega arith) p.1

-- at each place
pub all_of : {A : Type 0} (P : A → Type 0) (xs : List A) → Each P xs → All P xs
all_of P [] h = All-nil P
all_of P (x ∷ xs) h = All-cons P x xs h.0 (all_of P xs h.1)
