-- There are as many samples as the tables say.
use Rattle.std.proofs.Common.{◌≡◌, ℕ, zero, suc, ◌+◌, ◌-◌, Bool, true, false, nat_lt, List, [], ◌∷◌, length, take, drop, replicate, refl, ap, ◌∙◌, arith, length-append, length-drop}
use Rattle.std.specs.Prelude.{sum, nat_le, ◌==◌, ◌&&◌, if◌then◌else◌}
use Rattle.std.proofs.lemmas.Bool.{eqb-true}
use Rattle.std.proofs.lemmas.List.{length-take}
use Rattle.spec_boxes.specs.Tables.{words, longs, size_list, place_list, Run, counts_from, chunk_counts, rise_after, total_from, agree}
use Rattle.spec_boxes.specs.Spans.{lay, spans}
use Rattle.spec_boxes.proofs.Rows.{sum-cons}
use Rattle.spec_boxes.proofs.Steps.{rises}
use Rattle.spec_boxes.proofs.RuledTables.{sum-counts}

and_true : (a b : Bool) → (a && b) ≡ true → (a ≡ true) × (b ≡ true)
and_true true b h = (refl, h)
and_true false b h = cc

length-lay : (p : ℕ) (ks : List ℕ) → length (lay p ks) ≡ length ks
length-lay p [] = refl
length-lay p (k ∷ ks) = ap suc (length-lay (p + k) ks)

length-words : (step n : ℕ) (p : List ℕ) (at : ℕ) → length (words step n p at) ≡ n
length-words step zero p at = refl
length-words step (suc n) p at = ap suc (length-words step n p (at + step))

length-longs : (n : ℕ) (p : List ℕ) (at : ℕ) → length (longs n p at) ≡ n
length-longs zero p at = refl
length-longs (suc n) p at = ap suc (length-longs n p (at + 8))

length-same : (n x : ℕ) → length (replicate n x) ≡ n
length-same zero x = refl
length-same (suc n) x = ap suc (length-same n x)

length-sizes : (common n : ℕ) (p : List ℕ) → length (size_list common n p) ≡ n
length-sizes common n p = by (common == 0) where
  by : (t : Bool) → length (if t then words 4 n p 12 else replicate n common) ≡ n
  by true = length-words 4 n p 12
  by false = length-same n common

length-places : (wide : Bool) (m : ℕ) (p : List ℕ) → length (place_list wide m p) ≡ m
length-places true m p = length-longs m p 8
length-places false m p = length-words 4 m p 8

length-counts : (first each : ℕ) (rs : List Run) (m : ℕ) → rise_after first rs m ≡ true → length (counts_from first each rs m) ≡ m + 1 - first
length-counts first each [] m h = length-same (m + 1 - first) each
length-counts first each (r ∷ rs) m h =
    let f = rises first m r rs h in
    let n = length-counts r.first r.each rs m f.rest in
    omega (arith, length-append (replicate (r.first - first) each) (counts_from r.first r.each rs m), length-same (r.first - first) each, n, f.above, f.within)

-- as many spans as sizes
pub length-spans : (ps cs ks : List ℕ) → length ps ≡ length cs → sum cs ≡ length ks → length (spans ps cs ks) ≡ length ks
length-spans [] [] [] same all = refl
length-spans [] [] (k ∷ ks) same all = absurd (omega arith)
length-spans [] (c ∷ cs) ks same all = absurd (omega arith)
length-spans (p ∷ ps) [] ks same all = absurd (omega arith)
length-spans (p ∷ ps) (c ∷ cs) [] same all = refl
length-spans (p ∷ ps) (c ∷ cs) (k ∷ ks) same all =
    let s = sum-cons c cs in
    let n = length-spans ps cs (drop c (k ∷ ks)) (omega arith) (omega (arith, s, length-drop c (k ∷ ks))) in
    omega (arith, length-append (lay p (take c (k ∷ ks))) (spans ps cs (drop c (k ∷ ks))), length-lay p (take c (k ∷ ks)), length-take c (k ∷ ks), length-drop c (k ∷ ks), n, s)

pub count_is : (wide : Bool) (m : ℕ) (q : List ℕ) (rs : List Run) (common n : ℕ) (p : List ℕ) → agree rs m n ≡ true → length (spans (place_list wide m q) (chunk_counts rs m) (size_list common n p)) ≡ n
count_is wide m q [] common n p h =
    let a = and_true (m == 0) (n == 0) h in
    let k = length-sizes common n p in
    length-spans (place_list wide m q) [] (size_list common n p) (omega (arith, length-places wide m q, eqb-true m 0 a.0)) (omega (arith, k, eqb-true n 0 a.1)) ∙ k
count_is wide m q (r ∷ rs) common n p h =
    let a = and_true (r.first == 1) _ h in
    let b = and_true (nat_le r.first m) _ a.1 in
    let c = and_true (nat_lt 0 r.each) _ b.1 in
    let d = and_true (rise_after r.first rs m) (total_from r.first r.each rs m == n) c.1 in
    let k = length-sizes common n p in
    let one : r.first ≡ 1 = eqb-true r.first 1 a.0 in
    length-spans (place_list wide m q) (counts_from r.first r.each rs m) (size_list common n p)
    (omega (arith, length-places wide m q, length-counts r.first r.each rs m d.0, one))
    (omega (arith, sum-counts r.first r.each rs m, eqb-true _ n d.1, k)) ∙ k
