-- Where the samples of a chunk lie, and how many a chunk has.
use Rattle.std.proofs.Common.{◌≡◌, ℕ, zero, suc, ◌+◌, ◌-◌, ◌<◌, ◌≤◌, Bool, true, false, List, [], ◌∷◌, ◌++◌, length, get_or, take, drop, replicate, refl, sym, ap, ◌∙◌, arith, inl, inr, length-drop}
use Rattle.std.specs.Prelude.{sum, nat_le, ◌⊎◌, if◌then◌else◌}
use Rattle.std.proofs.lemmas.Bool.{leb-true, leb-false}
use Rattle.std.proofs.lemmas.List.{get_or_append_left, get_or-append-add, get_or-take, get_or-drop, drop-drop, length-take}
use Rattle.spec_boxes.specs.Spans.{Span, lay, spans}
use Rattle.spec_boxes.specs.Tables.{Run, counts_from}
use Rattle.spec_boxes.proofs.Steps.{rises}
use Rattle.spec_boxes.specs.Chunks.{before, SamplesLie, each_at, ChunksCount}
use Rattle.spec_boxes.proofs.Rows.{sum-cons}

take_both : (n c : ℕ) (xs : List ℕ) → n ≤ c → take n (take c xs) ≡ take n xs
take_both zero c xs h = refl
take_both (suc n) zero xs h = absurd (omega arith)
take_both (suc n) (suc c) [] h = refl
take_both (suc n) (suc c) (x ∷ xs) h = ap (λ (ys : List ℕ). x ∷ ys) (take_both n c xs (omega arith))

abbrev span : ℕ → ℕ → Span
span p k = (p, k)

pub length-lay : (p : ℕ) (ks : List ℕ) → length (lay p ks) ≡ length ks
length-lay p [] = refl
length-lay p (k ∷ ks) = ap suc (length-lay (p + k) ks)

lay_nth : (p : ℕ) (ks : List ℕ) (n : ℕ) (none : Span) → n < length ks → get_or (lay p ks) n none ≡ span (p + sum (take n ks)) (get_or ks n 0)
lay_nth p [] n none h = absurd (omega arith)
lay_nth p (k ∷ ks) zero none h = let e : p ≡ p + 0 = omega arith in ap (λ (x : ℕ). span x k) e
lay_nth p (k ∷ ks) (suc n) none h =
    let e : p + k + sum (take n ks) ≡ p + sum (k ∷ take n ks) = omega (arith, sum-cons k (take n ks)) in
    lay_nth (p + k) ks n none (omega arith) ∙ ap (λ (x : ℕ). span x (get_or ks n 0)) e

nth_le : (cs : List ℕ) (j : ℕ) → get_or cs j 0 ≤ sum cs
nth_le [] j = omega arith
nth_le (c ∷ cs) zero = omega (arith, sum-cons c cs)
nth_le (c ∷ cs) (suc j) = omega (arith, sum-cons c cs, nth_le cs j)

pub samples_lie : SamplesLie
samples_lie [] counts sizes j n none same all chunk less = absurd (omega arith)
samples_lie (p ∷ ps) [] sizes j n none same all chunk less = absurd (omega arith)
samples_lie (p ∷ ps) (c ∷ cs) [] j n none same all chunk less = absurd (omega (arith, nth_le (c ∷ cs) j))
samples_lie (p ∷ ps) (c ∷ cs) (k ∷ ks) zero n none same all chunk less =
    let xs : List ℕ = k ∷ ks in
    let enough : c ≤ length (k ∷ ks) = omega (arith, sum-cons c cs) in
    let m : length (take c (k ∷ ks)) ≡ c = omega (arith, length-take c (k ∷ ks)) in
    let z : 0 + n ≡ n = omega arith in
    let a : get_or (lay p (take c (k ∷ ks)) ++ spans ps cs (drop c (k ∷ ks))) n none ≡ get_or (lay p (take c (k ∷ ks))) n none = get_or_append_left (lay p (take c (k ∷ ks))) _ none n (omega (arith, m, length-lay p (take c (k ∷ ks)))) in
    let b = lay_nth p (take c (k ∷ ks)) n none (omega (arith, m)) in
    let d : get_or (take c (k ∷ ks)) n 0 ≡ get_or (k ∷ ks) n 0 = get_or-take c (k ∷ ks) n 0 less in
    let e : take n (take c (k ∷ ks)) ≡ take n (k ∷ ks) = take_both n c (k ∷ ks) (omega arith) in
    rw z (a ∙ b ∙ ap (λ (x : ℕ). span (p + sum (take n (take c (k ∷ ks)))) x) d ∙ ap (λ (x : List ℕ). span (p + sum x) (get_or (k ∷ ks) n 0)) e)
samples_lie (p ∷ ps) (c ∷ cs) (k ∷ ks) (suc j) n none same all chunk less =
    let enough : c ≤ length (k ∷ ks) = omega (arith, sum-cons c cs) in
    let m : length (lay p (take c (k ∷ ks))) ≡ c = omega (arith, length-lay p (take c (k ∷ ks)), length-take c (k ∷ ks)) in
    let s : before (c ∷ cs) (suc j) ≡ c + before cs j = sum-cons c (take j cs) in
    let t : c + before cs j + n ≡ length (lay p (take c (k ∷ ks))) + (before cs j + n) = omega (arith, m) in
    let a : get_or (lay p (take c (k ∷ ks)) ++ spans ps cs (drop c (k ∷ ks))) (length (lay p (take c (k ∷ ks))) + (before cs j + n)) none ≡ get_or (spans ps cs (drop c (k ∷ ks))) (before cs j + n) none = get_or-append-add (lay p (take c (k ∷ ks))) (spans ps cs (drop c (k ∷ ks))) (before cs j + n) none in
    let b = samples_lie ps cs (drop c (k ∷ ks)) j n none (omega arith) (omega (arith, sum-cons c cs, length-drop c (k ∷ ks))) (omega arith) less in
    let d : drop (before cs j) (drop c (k ∷ ks)) ≡ drop (c + before cs j) (k ∷ ks) = drop-drop (before cs j) c (k ∷ ks) ∙ ap (λ (i : ℕ). drop i (k ∷ ks)) (omega arith) in
    let e : get_or (drop c (k ∷ ks)) (before cs j + n) 0 ≡ get_or (k ∷ ks) (c + before cs j + n) 0 = get_or-drop c (k ∷ ks) (before cs j + n) 0 ∙ ap (λ (i : ℕ). get_or (k ∷ ks) i 0) (omega arith) in
    ap (λ (i : ℕ). get_or (spans (p ∷ ps) (c ∷ cs) (k ∷ ks)) (i + n) none) s ∙ ap (λ (i : ℕ). get_or (spans (p ∷ ps) (c ∷ cs) (k ∷ ks)) i none) t ∙ a ∙ b
    ∙ ap (λ (x : List ℕ). span (get_or ps j 0 + sum (take n x)) (get_or (drop c (k ∷ ks)) (before cs j + n) 0)) d
    ∙ ap (λ (x : ℕ). span (get_or ps j 0 + sum (take n (drop (c + before cs j) (k ∷ ks)))) x) e
    ∙ ap (λ (i : ℕ). span (get_or ps j 0 + sum (take n (drop i (k ∷ ks)))) (get_or (k ∷ ks) (i + n) 0)) (sym s)

length-same : (n x : ℕ) → length (replicate n x) ≡ n
length-same zero x = refl
length-same (suc n) x = ap suc (length-same n x)

nth_same : (n x i : ℕ) → i < n → get_or (replicate n x) i 0 ≡ x
nth_same zero x i less = absurd (omega arith)
nth_same (suc n) x zero less = refl
nth_same (suc n) x (suc i) less = nth_same n x i (omega arith)

covered_by : (t : Bool) (first each : ℕ) (r : Run) (rs : List Run) (m chunk : ℕ) → nat_le r.first chunk ≡ t → first < r.first → first ≤ chunk
    → get_or (counts_from r.first r.each rs m) (chunk - r.first) 0 ≡ each_at r.each rs chunk ⊎ (chunk < r.first)
    → get_or (replicate (r.first - first) each ++ counts_from r.first r.each rs m) (chunk - first) 0 ≡ (if t then each_at r.each rs chunk else each)
covered_by true first each r rs m chunk is above from (inl later) =
    let l : r.first ≤ chunk = leb-true r.first chunk is in
    let e : chunk - first ≡ length (replicate (r.first - first) each) + (chunk - r.first) = omega (arith, length-same (r.first - first) each) in
    rw e (get_or-append-add (replicate (r.first - first) each) (counts_from r.first r.each rs m) (chunk - r.first) 0 ∙ later)
covered_by true first each r rs m chunk is above from (inr past) = let l : r.first ≤ chunk = leb-true r.first chunk is in absurd (omega arith)
covered_by false first each r rs m chunk is above from later =
    let l : chunk < r.first = leb-false r.first chunk is in
    get_or_append_left (replicate (r.first - first) each) (counts_from r.first r.each rs m) 0 (chunk - first) (omega (arith, length-same (r.first - first) each)) ∙ nth_same (r.first - first) each (chunk - first) (omega arith)

or_past : (t : Bool) (first : ℕ) (r : Run) (rs : List Run) (m chunk : ℕ) → nat_le r.first chunk ≡ t
    → (r.first ≤ chunk → get_or (counts_from r.first r.each rs m) (chunk - r.first) 0 ≡ each_at r.each rs chunk)
    → (get_or (counts_from r.first r.each rs m) (chunk - r.first) 0 ≡ each_at r.each rs chunk) ⊎ (chunk < r.first)
or_past true first r rs m chunk is later = inl (later (leb-true r.first chunk is))
or_past false first r rs m chunk is later = inr (leb-false r.first chunk is)

pub chunks_count : ChunksCount
chunks_count first each [] m chunk rise from to = nth_same (m + 1 - first) each (chunk - first) (omega arith)
chunks_count first each (r ∷ rs) m chunk rise from to =
    let f = rises first m r rs rise in
    covered_by (nat_le r.first chunk) first each r rs m chunk refl f.above from (or_past (nat_le r.first chunk) first r rs m chunk refl (λ l. chunks_count r.first r.each rs m chunk f.rest l to))
