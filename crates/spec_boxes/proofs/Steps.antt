-- One more sample, and one more chunk.
use Rattle.std.proofs.Common.{◌≡◌, ℕ, zero, suc, ◌+◌, ◌-◌, ◌*◌, ◌<◌, ◌≤◌, Bool, true, false, List, [], ◌∷◌, ◌++◌, length, take, drop, refl, sym, ap, subst, ◌∙◌, arith}
use Rattle.std.specs.Prelude.{◌==◌, ◌&&◌, if◌then◌else◌, replicate}
use Rattle.std.proofs.lemmas.Bool.{ltb-true, leb-true, eqb-true, eqb-false, lt-ltb, le-leb, lt-leb}
use Rattle.std.proofs.Common.{length-drop}
use Rattle.std.proofs.lemmas.List.{length-take}
use Rattle.spec_boxes.specs.Bytes.{word_at, long_at}
use Rattle.spec_boxes.specs.Tables.{words, Run, runs_of, rise_after, total_from, counts_from, size_list, place_list, agree, chunk_counts}
use Rattle.spec_boxes.specs.Spans.{Span, lay, spans, fit, sizes_from, places_from, runs_from}
use Rattle.spec_boxes.proofs.Rows.{words_next, row_at, runs_next}

pub sizes_next_word : (common n : ℕ) (p : List ℕ) (s : ℕ) → s < n → common ≡ 0 → sizes_from common n p s ≡ word_at p (12 + 4 * s) ∷ sizes_from common n p (s + 1)
sizes_next_word common n p s less none = rw (none) (words_next 4 n p 12 s less)

pub sizes_next_same : (common n : ℕ) (p : List ℕ) (s : ℕ) → s < n → (common == 0) ≡ false → sizes_from common n p s ≡ common ∷ sizes_from common n p (s + 1)
sizes_next_same common n p s less some = let e : n - s ≡ suc (n - (s + 1)) = omega arith in rw (some, e) refl

pub places_next_word : (m : ℕ) (p : List ℕ) (j : ℕ) → j < m → places_from false m p j ≡ word_at p (8 + 4 * j) ∷ places_from false m p (j + 1)
places_next_word m p j less = words_next 4 m p 8 j less

pub places_next_long : (m : ℕ) (p : List ℕ) (j : ℕ) → j < m → places_from true m p j ≡ long_at p (8 + 8 * j) ∷ places_from true m p (j + 1)
places_next_long m p j less =
    let e : m - j ≡ suc (m - (j + 1)) = omega arith in
    let q : 8 + 8 * (j + 1) ≡ 8 + 8 * j + 8 = omega arith in
    rw (e, q) refl

-- a sample of a chunk
take_one : (p left l k : ℕ) (sizes ks ps cs : List ℕ) → left ≡ suc l → sizes ≡ k ∷ ks
    → lay p (take left sizes) ++ spans ps cs (drop left sizes) ≡ (p, k) ∷ (lay (p + k) (take l ks) ++ spans ps cs (drop l ks))
take_one p left l k sizes ks ps cs e is = rw (e, is) refl

and_true : (a b : Bool) → (a && b) ≡ true → (a ≡ true) × (b ≡ true)
and_true true b h = (refl, h)
and_true false b h = cc

-- what is known of a run after a chunk
pub record Rises (j m : ℕ) (r : Run) (rs : List Run) : Type 0 where
  pub above : j < r.first
  pub within : r.first ≤ m
  pub some : 0 < r.each
  pub rest : rise_after r.first rs m ≡ true

pub rises : (j m : ℕ) (r : Run) (rs : List Run) → rise_after j (r ∷ rs) m ≡ true → Rises j m r rs
rises j m r rs h =
    let a = and_true _ _ h in
    let b = and_true _ _ a.1 in
    let c = and_true _ _ b.1 in
    record { above = ltb-true j r.first a.0; within = leb-true r.first m b.0; some = ltb-true 0 r.each c.0; rest = c.1 }

-- some samples are left, so a chunk is
pub chunk_left : (j e m : ℕ) (rs : List Run) → j ≤ m → rise_after j rs m ≡ true → 0 < total_from (j + 1) e rs m → j < m
chunk_left j e m [] within rise some = elim (j == m) as (λ b. (j == m) ≡ b → j < m) [ true ↦ λ is. absurd (none is) | false ↦ λ is. let ne : j ≡ m → ⊥ = eqb-false j m is in omega arith ] refl where
  none : (j == m) ≡ true → ⊥
  none is = let eq : j ≡ m = eqb-true j m is in let z : m + 1 - (j + 1) ≡ 0 = omega arith in let h = rw z at some in omega arith
chunk_left j e m (r ∷ rs) within rise some = let f = rises j m r rs rise in omega (arith, f.above, f.within)

pub total_enter : (j e m : ℕ) (rs : List Run) → j < m → rise_after (j + 1) rs m ≡ true → total_from (j + 1) e rs m ≡ e + total_from (j + 1 + 1) e rs m
total_enter j e m [] less rise = let k : m + 1 - (j + 1) ≡ 1 + (m + 1 - (j + 1 + 1)) = omega arith in rw k (omega arith)
total_enter j e m (r ∷ rs) less rise =
    let f = rises (j + 1) m r rs rise in
    let k : r.first - (j + 1) ≡ 1 + (r.first - (j + 1 + 1)) = omega (arith, f.above) in
    rw k (omega arith)

pub counts_enter : (j e m : ℕ) (rs : List Run) → j < m → rise_after (j + 1) rs m ≡ true → counts_from (j + 1) e rs m ≡ e ∷ counts_from (j + 1 + 1) e rs m
counts_enter j e m [] less rise = let k : m + 1 - (j + 1) ≡ suc (m + 1 - (j + 1 + 1)) = omega arith in rw k refl
counts_enter j e m (r ∷ rs) less rise =
    let f = rises (j + 1) m r rs rise in
    let k : r.first - (j + 1) ≡ suc (r.first - (j + 1 + 1)) = omega (arith, f.above) in
    rw k refl

-- a run begins with the next chunk
pub total_turn : (j e m n : ℕ) (p : List ℕ) (r : ℕ) → r < n → word_at p (8 + 12 * r) ≡ j + 1
    → total_from (j + 1) e (runs_from n p r) m ≡ total_from (j + 1) (word_at p (12 + 12 * r)) (runs_from n p (r + 1)) m
total_turn j e m n p r less is =
    let q : 12 + 12 * r ≡ 8 + 12 * r + 4 = omega arith in
    let z : j + 1 - (j + 1) ≡ 0 = omega arith in
    let o : (x : ℕ) → 0 * e + x ≡ x = λ x. omega arith in
    rw (q, runs_next n p 8 r less, is, z, o) refl

pub counts_turn : (j e m n : ℕ) (p : List ℕ) (r : ℕ) → r < n → word_at p (8 + 12 * r) ≡ j + 1
    → counts_from (j + 1) e (runs_from n p r) m ≡ counts_from (j + 1) (word_at p (12 + 12 * r)) (runs_from n p (r + 1)) m
counts_turn j e m n p r less is =
    let q : 12 + 12 * r ≡ 8 + 12 * r + 4 = omega arith in
    let z : j + 1 - (j + 1) ≡ 0 = omega arith in
    rw (q, runs_next n p 8 r less, is, z) refl

pub rises_turn : (j m n : ℕ) (p : List ℕ) (r : ℕ) → r < n → word_at p (8 + 12 * r) ≡ j + 1 → rise_after j (runs_from n p r) m ≡ true
    → (0 < word_at p (12 + 12 * r)) × (rise_after (j + 1) (runs_from n p (r + 1)) m ≡ true)
rises_turn j m n p r less is h =
    let e = runs_next n p 8 r less in
    let q : 12 + 12 * r ≡ 8 + 12 * r + 4 = omega arith in
    let f = rises j m (row_at p (8 + 12 * r)) (runs_from n p (r + 1)) (rw e at h) in
    (rw q f.some, rw (← is) f.rest)

pub rises_on : (j m n : ℕ) (p : List ℕ) (r : ℕ) → r < n → (word_at p (8 + 12 * r) ≡ j + 1 → ⊥) → rise_after j (runs_from n p r) m ≡ true
    → rise_after (j + 1) (runs_from n p r) m ≡ true
rises_on j m n p r less other h =
    let e = runs_next n p 8 r less in
    let f = rises j m (row_at p (8 + 12 * r)) (runs_from n p (r + 1)) (rw e at h) in
    let a : j + 1 < word_at p (8 + 12 * r) = omega (arith, f.above) in
    rw (e, lt-ltb (j + 1) (word_at p (8 + 12 * r)) a, le-leb _ m f.within, lt-ltb 0 _ f.some) f.rest

pub take_left : (p left k : ℕ) (sizes ks ps cs : List ℕ) → 0 < left → sizes ≡ k ∷ ks
    → lay p (take left sizes) ++ spans ps cs (drop left sizes) ≡ (p, k) ∷ (lay (p + k) (take (left - 1) ks) ++ spans ps cs (drop (left - 1) ks))
take_left p left k sizes ks ps cs some is = let e : left ≡ suc (left - 1) = omega arith in take_one p left (left - 1) k sizes ks ps cs e is

pub part_len : (p k : ℕ) (xs : List ℕ) → p + k ≤ length xs → length (take (p + k - p) (drop p xs)) ≡ k
part_len p k xs within = omega (arith, length-take (p + k - p) (drop p xs), length-drop p xs)

pub enter_left : (p left q c k : ℕ) (sizes ks places ps counts cs : List ℕ) → left ≡ 0 → sizes ≡ k ∷ ks → places ≡ q ∷ ps → counts ≡ c ∷ cs
    → lay q (take c sizes) ++ spans ps cs (drop c sizes) ≡ lay p (take left sizes) ++ spans places counts (drop left sizes)
enter_left p left q c k sizes ks places ps counts cs none s pl co = rw (none, pl, co, s) refl

pub none_left : (common n : ℕ) (p : List ℕ) (s : ℕ) → s ≡ n → sizes_from common n p s ≡ []
none_left common n p s is = let z : n - s ≡ 0 = omega arith in rw z (both (common == 0)) where
  both : (b : Bool) → (if b then words 4 0 p (12 + 4 * s) else replicate 0 common) ≡ []
  both true = refl
  both false = refl

pub spans_none : (p left : ℕ) (sizes ps cs : List ℕ) → sizes ≡ [] → lay p (take left sizes) ++ spans ps cs (drop left sizes) ≡ []
spans_none p left sizes ps cs is = rw (is, take_none left, drop_none left) refl where
  take_none : (n : ℕ) → take {A = ℕ} n [] ≡ []
  take_none zero = refl
  take_none (suc n) = refl

  drop_none : (n : ℕ) → drop {A = ℕ} n [] ≡ []
  drop_none zero = refl
  drop_none (suc n) = refl

-- where a sample is left there is a size
pub some_size : (common n : ℕ) (p : List ℕ) (s : ℕ) → s < n → (k : ℕ) × (ks : List ℕ) × (sizes_from common n p s ≡ k ∷ ks)
some_size common n p s less = either (common == 0) refl where
  either : (b : Bool) → (common == 0) ≡ b → (k : ℕ) × (ks : List ℕ) × (sizes_from common n p s ≡ k ∷ ks)
  either true is = (word_at p (12 + 4 * s), sizes_from common n p (s + 1), sizes_next_word common n p s less (eqb-true common 0 is))
  either false is = (common, sizes_from common n p (s + 1), sizes_next_same common n p s less is)

pub sizes_start : (common n : ℕ) (p : List ℕ) → sizes_from common n p 0 ≡ size_list common n p
sizes_start common n p = let z : n - 0 ≡ n = omega arith in rw z refl

pub places_start : (wide : Bool) (m : ℕ) (p : List ℕ) → places_from wide m p 0 ≡ place_list wide m p
places_start wide m p = let z : m - 0 ≡ m = omega arith in rw z refl

rise_down : (m : ℕ) (rs : List Run) → rise_after 1 rs m ≡ true → rise_after 0 rs m ≡ true
rise_down m [] h = refl
rise_down m (r ∷ rs) h =
    let f = rises 1 m r rs h in
    let a : 0 < r.first = omega (arith, f.above) in
    rw (lt-ltb 0 r.first a, le-leb r.first m f.within, lt-ltb 0 r.each f.some) f.rest

-- the runs agree from the start
pub record Starts (count : ℕ) (p : List ℕ) (m n : ℕ) : Type 0 where
  pub some : 0 < word_at p 12
  pub rising : rise_after 0 (runs_from count p 1) m ≡ true
  pub total : total_from 1 (word_at p 12) (runs_from count p 1) m ≡ n
  pub counts : chunk_counts (runs_of count p 8) m ≡ counts_from 1 (word_at p 12) (runs_from count p 1) m

pub starts : (count : ℕ) (p : List ℕ) (m n : ℕ) → 0 < count → agree (runs_of count p 8) m n ≡ true → Starts count p m n
starts count p m n less h =
    let e : count ≡ suc (count - 1) = omega arith in
    let g : agree (runs_of (suc (count - 1)) p 8) m n ≡ true = subst (λ (k : ℕ). agree (runs_of k p 8) m n ≡ true) e h in
    let a = and_true _ _ g in
    let b = and_true _ _ a.1 in
    let c = and_true _ _ b.1 in
    let d = and_true _ _ c.1 in
    let one : word_at p 8 ≡ 1 = eqb-true (word_at p 8) 1 a.0 in
    let up : rise_after (word_at p 8) (runs_of (count - 1) p 20) m ≡ true = d.0 in
    let whole : total_from (word_at p 8) (word_at p 12) (runs_of (count - 1) p 20) m ≡ n = eqb-true (total_from (word_at p 8) (word_at p 12) (runs_of (count - 1) p 20) m) n d.1 in
    record {
      some = ltb-true 0 (word_at p 12) c.0;
      rising = rise_down m (runs_from count p 1) (subst (λ (x : ℕ). rise_after x (runs_of (count - 1) p 20) m ≡ true) one up);
      total = subst (λ (x : ℕ). total_from x (word_at p 12) (runs_of (count - 1) p 20) m ≡ n) one whole;
      counts = subst (λ (k : ℕ). chunk_counts (runs_of k p 8) m ≡ counts_from (word_at p 8) (word_at p 12) (runs_of (count - 1) p 20) m) (sym e) refl ∙ ap (λ (x : ℕ). counts_from x (word_at p 12) (runs_of (count - 1) p 20) m) one;
    }

pub starts_none : (count : ℕ) (p : List ℕ) (m n : ℕ) → count ≡ 0 → agree (runs_of count p 8) m n ≡ true → (m ≡ 0) × (n ≡ 0) × (runs_from count p 0 ≡ [])
starts_none count p m n none h =
    let g : agree (runs_of 0 p 8) m n ≡ true = subst (λ (k : ℕ). agree (runs_of k p 8) m n ≡ true) none h in
    let a = and_true _ _ g in
    let z : count - 0 ≡ 0 = omega arith in
    (eqb-true m 0 a.0, eqb-true n 0 a.1, rw z refl)

pub spans_empty : (common n : ℕ) (p : List ℕ) (ps cs qs ds : List ℕ) → n ≡ 0 → lay 0 (take 0 (sizes_from common n p 0)) ++ spans ps cs (drop 0 (sizes_from common n p 0)) ≡ spans qs ds (size_list common n p)
spans_empty common n p ps cs qs ds none =
    let a : size_list common n p ≡ [] = sym (sizes_start common n p) ∙ none_left common n p 0 (sym none) in
    let b : sizes_from common n p 0 ≡ [] = none_left common n p 0 (sym none) in
    rw (a, b) refl

pub spans_start : (common n : ℕ) (p : List ℕ) (wide : Bool) (m : ℕ) (q cs ds : List ℕ) → ds ≡ cs
    → lay 0 (take 0 (sizes_from common n p 0)) ++ spans (places_from wide m q 0) cs (drop 0 (sizes_from common n p 0)) ≡ spans (place_list wide m q) ds (size_list common n p)
spans_start common n p wide m q cs ds same = rw (sizes_start common n p, places_start wide m q, same) refl

-- the test of one more sample
pub fit_next : (len room at k : ℕ) (left rest : List Span) → left ≡ (at, k) ∷ rest → at + k ≤ len → k ≤ room → fit len room left ≡ fit len (room - k) rest
fit_next len room at k left rest is inside small = rw (is, le-leb (at + k) len inside, le-leb k room small) refl

pub fit_end : (len room : ℕ) (left : List Span) → left ≡ [] → true ≡ fit len room left
fit_end len room left is = rw is refl

pub fit_outside : (len room at k : ℕ) (left rest : List Span) → left ≡ (at, k) ∷ rest → len < at + k → false ≡ fit len room left
fit_outside len room at k left rest is past = rw (is, lt-leb (at + k) len past) refl

pub fit_large : (len room at k : ℕ) (left rest : List Span) → left ≡ (at, k) ∷ rest → at + k ≤ len → room < k → false ≡ fit len room left
fit_large len room at k left rest is inside large = rw (is, le-leb (at + k) len inside, lt-leb k room large) refl
