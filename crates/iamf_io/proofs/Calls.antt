-- Several calls of a source or a sink, as one.
use Rattle.std.proofs.Common.{◌≡◌, ℕ, zero, suc, ◌+◌, ◌-◌, ◌<◌, ◌≤◌, List, [], ◌∷◌, ◌++◌, length, take, drop, Option, Some, None, refl, sym, ap, subst, ◌∙◌, arith, append_assoc}
use Rattle.std.proofs.lemmas.List.{length-drop, length-take, length-take-le, take-take}
use Rattle.std.specs.Io.KnownBytes.{Appends, Consumes}
use Rattle.iamf_io.specs.Whole.{TakesAtMost, TakesCount}

-- what the reading loop keeps: of all, the first bytes were read, and the others are room
pub record IsHalfRead (old new : Option (List ℕ)) (before now : ℕ) (all : List ℕ) (read limit : ℕ) : Type 0 where
  pub there : read ≤ length all
  pub within : read ≤ limit
  pub taken : Consumes old new (take read all)
  pub same : now ≡ before

-- what the writing loop keeps
pub record IsHalfWritten (old new : Option (List ℕ)) (before now : ℕ) (bytes : List ℕ) (at : ℕ) : Type 0 where
  pub within : at ≤ length bytes
  pub put : Appends old new (take at bytes)
  pub same : now ≡ before

-- two calls take what each of them takes
Consumes-more : (a b c : Option (List ℕ)) (xs ys : List ℕ) → Consumes a b xs → Consumes b c ys → Consumes a c (xs ++ ys)
Consumes-more None b c xs ys p q = tt
Consumes-more (Some hs) None c xs ys p q = absurd p
Consumes-more (Some hs) (Some bs) None xs ys p q = absurd q
Consumes-more (Some hs) (Some bs) (Some cs) xs ys p q = p ∙ ap (λ (t : List ℕ). xs ++ t) q ∙ sym (append_assoc xs ys cs)

-- two calls append what each of them appends
Appends-more : (a b c : Option (List ℕ)) (xs ys : List ℕ) → Appends a b xs → Appends b c ys → Appends a c (xs ++ ys)
Appends-more None b c xs ys p q = tt
Appends-more (Some hs) None c xs ys p q = absurd p
Appends-more (Some hs) (Some bs) None xs ys p q = absurd q
Appends-more (Some hs) (Some bs) (Some cs) xs ys p q = q ∙ ap (λ (t : List ℕ). t ++ ys) p ∙ append_assoc hs xs ys

take-nothing : (n : ℕ) → take {A = ℕ} n [] ≡ []
take-nothing zero = refl
take-nothing (suc n) = refl

take-plus : (i n : ℕ) (xs : List ℕ) → take i xs ++ take n (drop i xs) ≡ take (i + n) xs
take-plus zero n xs = let e : 0 + n ≡ n = omega arith in rw e refl
take-plus (suc i) n [] = take-nothing n ∙ sym (take-nothing (suc i + n))
take-plus (suc i) n (x ∷ xs) = let e : suc i + n ≡ suc (i + n) = omega arith in rw e (ap (λ (ys : List ℕ). x ∷ ys) (take-plus i n xs))

-- one more read, of n bytes: the first bytes stayed where room was made, and where it was filled
pub record IsFilled (old new : Option (List ℕ)) (all room filled : List ℕ) (read n : ℕ) : Type 0 where
  pub made : take read room ≡ take read all
  pub kept : take read filled ≡ take read room
  pub within : read + n ≤ length filled
  pub taken : Consumes old new (take n (drop read filled))

pub filled : {old new : Option (List ℕ)} {all room full : List ℕ} {read n : ℕ} → take read room ≡ take read all → take read full ≡ take read room
    → read + n ≤ length full → Consumes old new (take n (drop read full)) → IsFilled old new all room full read n
filled made kept within taken = record { made = made; kept = kept; within = within; taken = taken }

Consumes-filled : (a b c : Option (List ℕ)) (before now : ℕ) (all room filled : List ℕ) (read limit n : ℕ) → IsHalfRead a b before now all read limit
    → IsFilled b c all room filled read n → Consumes a c (take (read + n) filled)
Consumes-filled a b c before now all room filled read limit n half more =
    let first : Consumes a b (take read filled) = subst (λ (t : List ℕ). Consumes a b t) (sym (more.kept ∙ more.made)) half.taken in
    subst (λ (t : List ℕ). Consumes a c t) (take-plus read n filled) (Consumes-more a b c (take read filled) (take n (drop read filled)) first more.taken)

pub goes_on_reading : (a b c : Option (List ℕ)) (before mid now : ℕ) (all room filled : List ℕ) (read limit n : ℕ) → IsHalfRead a b before mid all read limit
    → IsFilled b c all room filled read n → read + n ≤ limit → now ≡ mid → IsHalfRead a c before now filled (read + n) limit
goes_on_reading a b c before mid now all room filled read limit n half more few kept =
    record {
      there = more.within;
      within = few;
      taken = Consumes-filled a b c before mid all room filled read limit n half more;
      same = kept ∙ half.same;
    }

-- what is taken in all
pub takes_most : (a b c : Option (List ℕ)) (before now : ℕ) (all room filled : List ℕ) (read limit n : ℕ) → IsHalfRead a b before now all read limit
    → IsFilled b c all room filled read n → read + n ≤ limit + 1 → TakesAtMost a c (limit + 1)
takes_most a b c before now all room filled read limit n half more few =
    record {
      bytes = take (read + n) filled;
      within = omega (arith, length-take-le (read + n) filled more.within, few);
      taken = Consumes-filled a b c before now all room filled read limit n half more;
    }

pub takes_count : (a b c : Option (List ℕ)) (before now : ℕ) (all room filled : List ℕ) (read limit n : ℕ) → IsHalfRead a b before now all read limit
    → IsFilled b c all room filled read n → read + n ≤ limit + 1 → limit < read + n → TakesCount a c (limit + 1)
takes_count a b c before now all room filled read limit n half more few many =
    record {
      bytes = take (read + n) filled;
      counted = omega (arith, length-take-le (read + n) filled more.within, few, many);
      taken = Consumes-filled a b c before now all room filled read limit n half more;
    }

-- one more write, of n bytes of those up to the end
pub goes_on_writing : (a b c : Option (List ℕ)) (before mid now : ℕ) (bytes : List ℕ) (at end n : ℕ) → IsHalfWritten a b before mid bytes at
    → end ≤ length bytes → n ≤ length (take (end - at) (drop at bytes)) → Appends b c (take n (take (end - at) (drop at bytes))) → now ≡ mid
    → IsHalfWritten a c before now bytes (at + n)
goes_on_writing a b c before mid now bytes at end n half there few put kept =
    let small : n ≤ end - at = omega (arith, length-take (end - at) (drop at bytes), few) in
    let one : take n (take (end - at) (drop at bytes)) ≡ take n (drop at bytes) = take-take n (end - at) (drop at bytes) small in
    let more : Appends a c (take at bytes ++ take n (drop at bytes)) = Appends-more a b c (take at bytes) (take n (drop at bytes)) half.put (rw one at put) in
    record {
      within = omega (arith, half.within, few, there, length-take (end - at) (drop at bytes), length-drop at bytes);
      put = rw take-plus at more;
      same = kept ∙ half.same;
    }
