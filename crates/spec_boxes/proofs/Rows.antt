-- The rows of a table, one at a time.
use Rattle.std.proofs.Common.{◌≡◌, ℕ, suc, ◌+◌, ◌-◌, ◌*◌, ◌<◌, ◌≤◌, Bool, true, false, nat_lt, List, [], ◌∷◌, refl, sym, ap, ◌∙◌, arith, add_assoc}
use Rattle.std.specs.Prelude.{sum, ◌==◌, ◌&&◌}
use Rattle.std.proofs.lemmas.Bool.{lt-ltb, le-ltb, le-leb, lt-leb, eq-eqb, ne_eqb}
use Rattle.std.proofs.lemmas.List.Sums.{sum_by-append}
use Rattle.std.proofs.Math.Nat.{mul-le-mul_left}
use Rattle.spec_boxes.specs.Bytes.{word_at}
use Rattle.spec_boxes.specs.Tables.{words, Run, runs_of, rise_after, total_from, agree, all_first}

pub words_next : (step n : ℕ) (p : List ℕ) (at i : ℕ) → i < n
    → words step (n - i) p (at + step * i) ≡ word_at p (at + step * i) ∷ words step (n - (i + 1)) p (at + step * (i + 1))
words_next step n p at i less =
    let e : n - i ≡ suc (n - (i + 1)) = omega arith in
    let q : at + step * (i + 1) ≡ at + step * i + step = omega arith in
    rw (e, q) refl

pub sum-cons : (x : ℕ) (xs : List ℕ) → sum (x ∷ xs) ≡ x + sum xs
sum-cons x xs = sum_by-append (λ y. y) (x ∷ []) xs ∙ ap (λ (y : ℕ). y + sum xs) (zero_plus x) where
  zero_plus : (y : ℕ) → 0 + y ≡ y
  zero_plus y = omega arith

pub sum_words_next : (step n : ℕ) (p : List ℕ) (at i total : ℕ) → i < n
    → total + sum (words step (n - i) p (at + step * i)) ≡ total + word_at p (at + step * i) + sum (words step (n - (i + 1)) p (at + step * (i + 1)))
sum_words_next step n p at i total less = rw (words_next step n p at i less, sum-cons) (omega arith)

abbrev pub row_at : List ℕ → ℕ → Run
row_at p at = record { first = word_at p at; each = word_at p (at + 4); description = word_at p (at + 8) }

pub runs_next : (n : ℕ) (p : List ℕ) (at i : ℕ) → i < n
    → runs_of (n - i) p (at + 12 * i) ≡ row_at p (at + 12 * i) ∷ runs_of (n - (i + 1)) p (at + 12 * (i + 1))
runs_next n p at i less =
    let e : n - i ≡ suc (n - (i + 1)) = omega arith in
    let q : at + 12 * (i + 1) ≡ at + 12 * i + 12 = omega arith in
    rw (e, q) refl

-- what is still to be tested of the runs after one
abbrev pub rest_agrees : ℕ → ℕ → ℕ → List Run → ℕ → ℕ → Bool
rest_agrees total before each rs m samples = rise_after before rs m && (total + total_from before each rs m == samples)

pub rest_next : (total before each m samples : ℕ) (r : Run) (rs : List Run) → before < r.first → r.first ≤ m → 0 < r.each
    → rest_agrees total before each (r ∷ rs) m samples ≡ rest_agrees (total + (r.first - before) * each) r.first r.each rs m samples
rest_next total before each m samples r rs above within some =
    rw (lt-ltb before r.first above, le-leb r.first m within, lt-ltb 0 r.each some, add_assoc) refl

and_false : (b : Bool) → (b && false) ≡ false
and_false true = refl
and_false false = refl

pub rest_low : (total before each m samples : ℕ) (r : Run) (rs : List Run) → r.first ≤ before → rest_agrees total before each (r ∷ rs) m samples ≡ false
rest_low total before each m samples r rs low = rw (le-ltb before r.first low) refl

pub rest_past : (total before each m samples : ℕ) (r : Run) (rs : List Run) → m < r.first → rest_agrees total before each (r ∷ rs) m samples ≡ false
rest_past total before each m samples r rs past = rw (lt-leb r.first m past) (rw and_false refl)

pub rest_empty : (total before each m samples : ℕ) (r : Run) (rs : List Run) → r.each ≡ 0 → rest_agrees total before each (r ∷ rs) m samples ≡ false
rest_empty total before each m samples r rs none = let l : nat_lt 0 r.each ≡ false = le-ltb 0 r.each (omega arith) in rw l (rw (and_false, and_false) refl)

pub first_next : (n : ℕ) (p : List ℕ) (at i : ℕ) → i < n → word_at p (at + 12 * i + 8) ≡ 1
    → all_first (runs_of (n - i) p (at + 12 * i)) ≡ all_first (runs_of (n - (i + 1)) p (at + 12 * (i + 1)))
first_next n p at i less one = rw (runs_next n p at i less, one) refl

pub first_other : (n : ℕ) (p : List ℕ) (at i : ℕ) → i < n → (word_at p (at + 12 * i + 8) ≡ 1 → ⊥)
    → all_first (runs_of (n - i) p (at + 12 * i)) ≡ false
first_other n p at i less other = rw (runs_next n p at i less, ne_eqb (word_at p (at + 12 * i + 8)) 1 other) refl

-- a product of two numbers of 32 bits
pub product_small : (a b : ℕ) → b < 4294967296 → a * b ≤ 4294967295 * a
product_small a b small = let m : a * b ≤ a * 4294967295 = mul-le-mul_left a (omega arith) in omega (arith, m)

-- the first run of some
pub agree_first : (n m samples : ℕ) (p : List ℕ) → 0 < n → word_at p 8 ≡ 1 → word_at p 8 ≤ m → 0 < word_at p 12
    → rest_agrees 0 (word_at p 8) (word_at p 12) (runs_of (n - 1) p 20) m samples ≡ agree (runs_of n p 8) m samples
agree_first n m samples p some one within each =
    let e : n ≡ suc (n - 1) = omega arith in
    let z : (x : ℕ) → 0 + x ≡ x = λ x. omega arith in
    let a : agree (runs_of (suc (n - 1)) p 8) m samples ≡ rest_agrees 0 (word_at p 8) (word_at p 12) (runs_of (n - 1) p 20) m samples =
    rw (eq-eqb (word_at p 8) 1 one, le-leb (word_at p 8) m within, lt-ltb 0 (word_at p 12) each, z) refl in
    sym (ap (λ (k : ℕ). agree (runs_of k p 8) m samples) e ∙ a)

pub agree_not : (n m samples : ℕ) (p : List ℕ) → 0 < n → (word_at p 8 ≡ 1 → ⊥) → false ≡ agree (runs_of n p 8) m samples
agree_not n m samples p some other =
    let e : n ≡ suc (n - 1) = omega arith in
    let a : agree (runs_of (suc (n - 1)) p 8) m samples ≡ false = rw (ne_eqb (word_at p 8) 1 other) refl in
    sym (ap (λ (k : ℕ). agree (runs_of k p 8) m samples) e ∙ a)

pub agree_past : (n m samples : ℕ) (p : List ℕ) → 0 < n → m < word_at p 8 → false ≡ agree (runs_of n p 8) m samples
agree_past n m samples p some past =
    let e : n ≡ suc (n - 1) = omega arith in
    let a : agree (runs_of (suc (n - 1)) p 8) m samples ≡ false = rw (lt-leb (word_at p 8) m past) (and_false _) in
    sym (ap (λ (k : ℕ). agree (runs_of k p 8) m samples) e ∙ a)

pub agree_empty : (n m samples : ℕ) (p : List ℕ) → 0 < n → word_at p 12 ≡ 0 → false ≡ agree (runs_of n p 8) m samples
agree_empty n m samples p some none =
    let e : n ≡ suc (n - 1) = omega arith in
    let l : nat_lt 0 (word_at p 12) ≡ false = le-ltb 0 (word_at p 12) (omega arith) in
    let a : agree (runs_of (suc (n - 1)) p 8) m samples ≡ false = rw l (rw and_false (and_false _)) in
    sym (ap (λ (k : ℕ). agree (runs_of k p 8) m samples) e ∙ a)

-- the runs from one on
pub agrees_next : (n m samples total before each i : ℕ) (p : List ℕ) → i < n → before < word_at p (8 + 12 * i) → word_at p (8 + 12 * i) ≤ m → 0 < word_at p (12 + 12 * i)
    → rest_agrees total before each (runs_of (n - i) p (8 + 12 * i)) m samples
    ≡ rest_agrees (total + (word_at p (8 + 12 * i) - before) * each) (word_at p (8 + 12 * i)) (word_at p (12 + 12 * i)) (runs_of (n - (i + 1)) p (8 + 12 * (i + 1))) m samples
agrees_next n m samples total before each i p less above within some =
    let q : 12 + 12 * i ≡ 8 + 12 * i + 4 = omega arith in
    let s : 0 < word_at p (8 + 12 * i + 4) = rw (← q) some in
    rw (q, runs_next n p 8 i less) (rest_next total before each m samples (row_at p (8 + 12 * i)) _ above within s)

pub fails_low : (n m samples total before each i : ℕ) (p : List ℕ) → i < n → word_at p (8 + 12 * i) ≤ before
    → rest_agrees total before each (runs_of (n - i) p (8 + 12 * i)) m samples ≡ false
fails_low n m samples total before each i p less low = rw (runs_next n p 8 i less) (rest_low total before each m samples (row_at p (8 + 12 * i)) _ low)

pub fails_past : (n m samples total before each i : ℕ) (p : List ℕ) → i < n → m < word_at p (8 + 12 * i)
    → rest_agrees total before each (runs_of (n - i) p (8 + 12 * i)) m samples ≡ false
fails_past n m samples total before each i p less past = rw (runs_next n p 8 i less) (rest_past total before each m samples (row_at p (8 + 12 * i)) _ past)

pub fails_empty : (n m samples total before each i : ℕ) (p : List ℕ) → i < n → word_at p (12 + 12 * i) ≡ 0
    → rest_agrees total before each (runs_of (n - i) p (8 + 12 * i)) m samples ≡ false
fails_empty n m samples total before each i p less none =
    let q : 12 + 12 * i ≡ 8 + 12 * i + 4 = omega arith in
    let s : word_at p (8 + 12 * i + 4) ≡ 0 = rw (← q) none in
    rw (runs_next n p 8 i less) (rest_empty total before each m samples (row_at p (8 + 12 * i)) _ s)
