-- Pieces that are written one after the other.
use Rattle.std.proofs.Common.{◌≡◌, true, false, ℕ, zero, suc, ◌+◌, ◌-◌, ◌<◌, ◌≤◌, List, [], ◌∷◌, ◌++◌, length, take, Option, Some, None, refl, sym, ap, ◌∙◌, subst, arith, append_assoc, append-nil, length-append}
use Rattle.std.proofs.lemmas.List.{take_all, take-append-le}
use Rattle.std.proofs.lemmas.Grind.{flat_map-append}
use Rattle.std.specs.List.{flat_map, range_with_len}
use Rattle.std.specs.Io.KnownBytes.{Appends}
use Rattle.std.specs.Io.KnownBytes.{Keeps}
use Rattle.std.specs.Prelude.{Result, Ok, Err, OnOk, OnErr, IsErr}
use Rattle.std.proofs.KnownBytes.{Appends-nil, Appends-trans, Appends-kept}
use Rattle.iamf_io.specs.declared.traits.Failed.{Failed}
use Rattle.iamf_io.specs.Causes.{Rose, HasCause}
use Rattle.iamf_io.specs.Whole.{AppendsFront}
use Rattle.iamf_tool.specs.Ends.{Side, Wrote, WroteFront, Writes}

-- ---- fronts

take_whole : (xs : List ℕ) → take (length xs) xs ≡ xs
take_whole xs = take_all (length xs) xs (omega arith)

take_past : (xs ys : List ℕ) (n : ℕ) → take (length xs + n) (xs ++ ys) ≡ xs ++ take n ys
take_past [] ys n = let e : 0 + n ≡ n = omega arith in rw e refl
take_past (x ∷ xs) ys n = let e : suc (length xs) + n ≡ suc (length xs + n) = omega arith in rw e (ap (λ (t : List ℕ). x ∷ t) (take_past xs ys n))

pub front_of_all : (a b : Option (List ℕ)) (xs : List ℕ) → Appends a b xs → AppendsFront a b xs
front_of_all a b xs put = record { count = length xs; within = omega arith; front = rw take_whole put }

pub front_of_more : (a b : Option (List ℕ)) (xs ys : List ℕ) → AppendsFront a b xs → AppendsFront a b (xs ++ ys)
front_of_more a b xs ys put =
    let within : put.count ≤ length xs = put.within in
    record { count = put.count; within = omega (arith, length-append xs ys); front = rw take-append-le put.front }

pub front_after : (a b c : Option (List ℕ)) (xs ys : List ℕ) → Appends a b xs → AppendsFront b c ys → AppendsFront a c (xs ++ ys)
front_after a b c xs ys first put = record {
  count = length xs + put.count;
  within = omega (arith, length-append xs ys, put.within);
  front = rw take_past (Appends-trans a b c xs (take put.count ys) first put.front);
}

-- ---- the pieces of a list

range_parts : (a m k : ℕ) → range_with_len a (m + k) ≡ range_with_len a m ++ range_with_len (a + m) k
range_parts a zero k =
    let e : 0 + k ≡ k = omega arith in
    let f : a + 0 ≡ a = omega arith in
    rw (e, f) refl
range_parts a (suc m) k =
    let e : suc m + k ≡ suc (m + k) = omega arith in
    let f : a + 1 + m ≡ a + suc m = omega arith in
    rw e (ap (λ (xs : List ℕ). a ∷ xs) (range_parts (a + 1) m k ∙ ap (λ (j : ℕ). range_with_len (a + 1) m ++ range_with_len j k) f))

pieces_parts : (f : ℕ → List ℕ) (m k : ℕ) → flat_map f (range_with_len 0 (m + k)) ≡ flat_map f (range_with_len 0 m) ++ flat_map f (range_with_len m k)
pieces_parts f m k =
    let e : 0 + m ≡ m = omega arith in
    ap (flat_map f) (range_parts 0 m k) ∙ flat_map-append f (range_with_len 0 m) (range_with_len (0 + m) k)
    ∙ ap (λ (j : ℕ). flat_map f (range_with_len 0 m) ++ flat_map f (range_with_len j k)) e

-- one more
pieces_more : (f : ℕ → List ℕ) (u : ℕ) → flat_map f (range_with_len 0 (u + 1)) ≡ flat_map f (range_with_len 0 u) ++ f u
pieces_more f u = pieces_parts f u 1 ∙ ap (λ (xs : List ℕ). flat_map f (range_with_len 0 u) ++ xs) (append-nil (f u))

-- one of them, with those before it and those after it
pieces_around : (f : ℕ → List ℕ) (u n : ℕ) → u < n → flat_map f (range_with_len 0 n) ≡ (flat_map f (range_with_len 0 u) ++ f u) ++ flat_map f (range_with_len (u + 1) (n - (u + 1)))
pieces_around f u n there =
    let e : u + 1 + (n - (u + 1)) ≡ n = omega arith in
    subst (λ (k : ℕ). flat_map f (range_with_len 0 k) ≡ flat_map f (range_with_len 0 (u + 1)) ++ flat_map f (range_with_len (u + 1) (n - (u + 1)))) e (pieces_parts f (u + 1) (n - (u + 1)))
    ∙ ap (λ (xs : List ℕ). xs ++ flat_map f (range_with_len (u + 1) (n - (u + 1)))) (pieces_more f u)

-- ---- writing them

abbrev pub between : (a b : Option (List ℕ)) (m n : ℕ) → Side
between a b m n = record { before = a; after = b; count_before = m; count_after = n }

pub wrote_more : (a b c : Option (List ℕ)) (m n k : ℕ) (xs ys : List ℕ) → Wrote (between a b m n) xs → Wrote (between b c n k) ys → Wrote (between a c m k) (xs ++ ys)
wrote_more a b c m n k xs ys first next = record { grown = Appends-trans a b c xs ys first.grown next.grown; same = next.same ∙ first.same }

pub failed_more : (a b : Option (List ℕ)) (m n : ℕ) (xs ys : List ℕ) → WroteFront (between a b m n) xs → WroteFront (between a b m n) (xs ++ ys)
failed_more a b m n xs ys first = record { grown = front_of_more a b xs ys first.grown; rose = first.rose }

pub failed_after : (a b c : Option (List ℕ)) (m n k : ℕ) (xs ys : List ℕ) → Wrote (between a b m n) xs → WroteFront (between b c n k) ys → WroteFront (between a c m k) (xs ++ ys)
failed_after a b c m n k xs ys first next = record { grown = front_after a b c xs ys first.grown next.grown; rose = subst (λ (j : ℕ). Rose j k) first.same next.rose }

pub unit_wrote : (f : ℕ → List ℕ) (u : ℕ) (a b c : Option (List ℕ)) (m n k : ℕ) → Wrote (between a b m n) (flat_map f (range_with_len 0 u)) → Wrote (between b c n k) (f u)
    → Wrote (between a c m k) (flat_map f (range_with_len 0 (u + 1)))
unit_wrote f u a b c m n k first next = rw (pieces_more f u) (wrote_more a b c m n k (flat_map f (range_with_len 0 u)) (f u) first next)

pub unit_failed : (f : ℕ → List ℕ) (u count : ℕ) (a b c : Option (List ℕ)) (m n k : ℕ) → u < count → Wrote (between a b m n) (flat_map f (range_with_len 0 u)) → WroteFront (between b c n k) (f u)
    → WroteFront (between a c m k) (flat_map f (range_with_len 0 count))
unit_failed f u count a b c m n k there first next =
    rw (pieces_around f u count there)
    (failed_more a c m k (flat_map f (range_with_len 0 u) ++ f u) (flat_map f (range_with_len (u + 1) (count - (u + 1)))) (failed_after a b c m n k (flat_map f (range_with_len 0 u)) (f u) first next))

-- ---- by the answer

-- one call that writes all
pub all_written : (result : Result (Unit {0}) Failed) (a b : Option (List ℕ)) (m n : ℕ) (xs : List ℕ) → OnOk result (Appends a b xs) → OnErr result (AppendsFront a b xs) → HasCause m n result → Writes result xs (between a b m n)
all_written (Ok u) a b m n xs all front cause = record { grown = all; same = cause.kept }
all_written (Err e) a b m n xs all front cause = record { grown = front; rose = cause.failed }

-- and a flush after it
pub flushed : (result : Result (Unit {0}) Failed) (a b c : Option (List ℕ)) (m n k : ℕ) (xs : List ℕ) → Wrote (between a b m n) xs → Keeps b c → HasCause n k result → Writes result xs (between a c m k)
flushed (Ok u) a b c m n k xs put kept cause = record { grown = Appends-kept a b c xs put.grown kept; same = cause.kept ∙ put.same }
flushed (Err e) a b c m n k xs put kept cause = record { grown = front_of_all a c xs (Appends-kept a b c xs put.grown kept); rose = subst (λ (j : ℕ). Rose j k) put.same cause.failed }

pub is_failed : (result : Result (Unit {0}) Failed) (s : Side) (xs : List ℕ) → IsErr result → WroteFront s xs → Writes result xs s
is_failed (Ok u) s xs err front =
    let e : false ≡ true = err in
    let none : ⊥ = cc in
    absurd none
is_failed (Err e) s xs err front = front
