-- One more payload in a set.
use Rattle.std.proofs.Common.{◌≡◌, ℕ, Bool, true, false, ◌&&◌, ◌||◌, List, [], ◌∷◌, Vec, Global, refl, sym, ap, ap₂, ◌∙◌, eqb, arith}
use Rattle.std.specs.Str.{bytes_eq}
use Rattle.std.specs.List.{list_any}
use Rattle.std.specs.declared.cmp.Ordering.{Ordering}
use Rattle.std.specs.declared.cmp.Ordering.TheVariants.{Less, Equal, Greater}
use Rattle.std.specs.Ordering.{is_eq, nat_cmp, match_ordering}
use Rattle.std.specs.Cmp.Lexicographic.{slice_cmp}
use Rattle.std.specs.BTreeSet.{BTreeSet, insert_key}
use Rattle.std.proofs.lemmas.Bool.Decides.{nat_tests}
use Rattle.std.proofs.lemmas.Map.Text.{is_eq-slice_cmp}
use Rattle.std.proofs.lemmas.Slice.Eq.{bytes_eq-Decides}
use Rattle.iamf_copies.specs.Sets.{has_bytes}

abbrev vec_cmp : Vec ℕ Global → Vec ℕ Global → Ordering
vec_cmp x y = slice_cmp nat_cmp x.items y.items

abbrev test : List ℕ → Vec ℕ Global → Bool
test payload v = is_eq (slice_cmp nat_cmp payload v.items)

or_swap : (a b : Bool) → (a || b) ≡ (b || a)
or_swap true true = refl
or_swap true false = refl
or_swap false true = refl
or_swap false false = refl

or_middle : (a b c : Bool) → (a || (b || c)) ≡ ((a || b) || c)
or_middle true b c = refl
or_middle false b c = refl

or_again : (a b : Bool) → (a || b) ≡ ((a || b) || a)
or_again true b = refl
or_again false true = refl
or_again false false = refl

-- equal payloads are the same
same_test : (payload : List ℕ) (k x : Vec ℕ Global) → Equal ≡ vec_cmp k x → test payload x ≡ test payload k
same_test payload k x same =
    let e : k.items ≡ x.items = (bytes_eq-Decides k.items x.items).0 (sym (is_eq-slice_cmp k.items x.items) ∙ ap is_eq (sym same)) in
    ap (λ (ys : List ℕ). is_eq (slice_cmp nat_cmp payload ys)) (sym e)

insert-at : (payload : List ℕ) (k x : Vec ℕ Global) (xs : List (Vec ℕ Global)) (o : Ordering) → o ≡ vec_cmp k x
    → list_any (test payload) (insert_key vec_cmp xs k) ≡ (list_any (test payload) xs || test payload k)
    → list_any (test payload) (match_ordering o (k ∷ x ∷ xs) (x ∷ xs) (x ∷ insert_key vec_cmp xs k)) ≡ (list_any (test payload) (x ∷ xs) || test payload k)
insert-at payload k x xs Less is rest = or_swap (test payload k) (list_any (test payload) (x ∷ xs))
insert-at payload k x xs Equal is rest = rw (same_test payload k x is) (or_again (test payload k) (list_any (test payload) xs))
insert-at payload k x xs Greater is rest = rw rest (or_middle (test payload x) (list_any (test payload) xs) (test payload k))

any-insert_key : (payload : List ℕ) (k : Vec ℕ Global) (xs : List (Vec ℕ Global)) → list_any (test payload) (insert_key vec_cmp xs k) ≡ (list_any (test payload) xs || test payload k)
any-insert_key payload k [] = or_swap (test payload k) false
any-insert_key payload k (x ∷ xs) = insert-at payload k x xs (vec_cmp k x) refl (any-insert_key payload k xs)

bytes_flip : (a b : List ℕ) → bytes_eq a b ≡ bytes_eq b a
bytes_flip [] [] = refl
bytes_flip [] (y ∷ ys) = refl
bytes_flip (x ∷ xs) [] = refl
bytes_flip (x ∷ xs) (y ∷ ys) = ap₂ (λ a b. a && b) (flip x y) (bytes_flip xs ys) where
  flip : (a b : ℕ) → eqb a b ≡ eqb b a
  flip a b = grind (arith, nat_tests)

pub has_bytes-insert : (old new : BTreeSet (Vec ℕ Global)) (k : Vec ℕ Global) (payload : List ℕ) → new.keys ≡ insert_key vec_cmp old.keys k → has_bytes new payload ≡ (has_bytes old payload || bytes_eq k.items payload)
has_bytes-insert old new k payload keys = ap (list_any (test payload)) keys ∙ any-insert_key payload k old.keys ∙ ap (λ b. has_bytes old payload || b) (is_eq-slice_cmp payload k.items ∙ bytes_flip payload k.items)
