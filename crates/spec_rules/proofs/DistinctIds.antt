-- Distinct ids of a list are all of its ids where they are as many.
use Rattle.std.proofs.Common.{◌≡◌, ℕ, ◌+◌, ◌≤◌, Bool, true, false, not, ◌&&◌, ◌||◌, cond, eqb, List, [], ◌∷◌, ◌++◌, length, refl, sym, ap, ◌∙◌, inl, inr, append_assoc, append-nil, eqb-true, eq-eqb, ne_eqb, true≢false, arith}
use Rattle.std.specs.Prelude.{None}
use Rattle.std.specs.List.{list_all}
use Rattle.std.proofs.lemmas.Bool.{or_parts, or_right, or_left, and_parts, cases_Bool, not-true, or_cases}
use Rattle.spec_rules.specs.Units.{contains, are_apart}
use Rattle.spec_rules.specs.Rules.{repeated}
use Rattle.spec_rules.proofs.Basics.{flip, any-push}

pub all_at : (p : ℕ → Bool) (xs : List ℕ) (x : ℕ) → list_all p xs ≡ true → contains xs x ≡ true → p x ≡ true
all_at p [] x all there = absurd cc
all_at p (y ∷ ys) x all there = elim (or_cases (eqb y x) (contains ys x) there) [
  | inl same ↦ ap p (sym (eqb-true y x same)) ∙ (and_parts (p y) (list_all p ys) all).0
  | inr rest ↦ all_at p ys x (and_parts (p y) (list_all p ys) all).1 rest
]

-- without the first x
abbrev without : ℕ → List ℕ → List ℕ
without x [] = []
without x (y ∷ ys) = cond (eqb y x) ys (y ∷ without x ys)

without-length : (x : ℕ) (ys : List ℕ) → contains ys x ≡ true → length (without x ys) + 1 ≡ length ys
without-length x [] h = absurd (grind arith)
without-length x (y ∷ ys) h = one (eqb y x) h (without-length x ys) where
  one : (b : Bool) → (b || contains ys x) ≡ true → (contains ys x ≡ true → length (without x ys) + 1 ≡ length ys) → length (cond b ys (y ∷ without x ys)) + 1 ≡ length (y ∷ ys)
  one true h rest = omega arith
  one false h rest = omega (arith, rest h)

without-keeps : (x z : ℕ) (ys : List ℕ) → eqb z x ≡ false → contains ys z ≡ true → contains (without x ys) z ≡ true
without-keeps x z [] other h = absurd (grind arith)
without-keeps x z (y ∷ ys) other h = one (eqb y x) refl (eqb y z) refl h (without-keeps x z ys other) where
  one : (b : Bool) → eqb y x ≡ b → (c : Bool) → eqb y z ≡ c → (c || contains ys z) ≡ true → (contains ys z ≡ true → contains (without x ys) z ≡ true) → contains (cond b ys (y ∷ without x ys)) z ≡ true
  one true p true q h rest = absurd (true≢false (sym (eq-eqb z x (sym (eqb-true y z q) ∙ eqb-true y x p)) ∙ other))
  one true p false q h rest = h
  one false p true q h rest = or_left (eqb y z) (contains (without x ys) z) q
  one false p false q h rest = or_right (eqb y z) (contains (without x ys) z) (rest h)

all-without : (x : ℕ) (xs ys : List ℕ) → contains xs x ≡ false → list_all (contains ys) xs ≡ true → list_all (contains (without x ys)) xs ≡ true
all-without x [] ys new h = refl
all-without x (z ∷ zs) ys new h =
    let first : (eqb z x ≡ false) × (contains zs x ≡ false) = or_parts (eqb z x) (contains zs x) new in
    let parts : (contains ys z ≡ true) × (list_all (contains ys) zs ≡ true) = and_parts (contains ys z) (list_all (contains ys) zs) h in
    rw (without-keeps x z ys first.0 parts.0, all-without x zs ys first.1 parts.1) refl

pub apart_parts : (x : ℕ) (xs : List ℕ) → are_apart (x ∷ xs) ≡ true → (contains xs x ≡ false) × (are_apart xs ≡ true)
apart_parts x xs h = let parts = and_parts (not (contains xs x)) (are_apart xs) h in (not-true (contains xs x) parts.0, parts.1)

-- distinct ids that all stand in another list are at most as many
pub fewer : (xs ys : List ℕ) → are_apart xs ≡ true → list_all (contains ys) xs ≡ true → length xs ≤ length ys
fewer [] ys apart within = omega arith
fewer (x ∷ xs) ys apart within =
    let a : (contains xs x ≡ false) × (are_apart xs ≡ true) = apart_parts x xs apart in
    let w : (contains ys x ≡ true) × (list_all (contains ys) xs ≡ true) = and_parts (contains ys x) (list_all (contains ys) xs) within in
    omega (arith, without-length x ys w.0, fewer xs (without x ys) a.1 (all-without x xs ys a.0 w.1))

record Missing (p : ℕ → Bool) (xs : List ℕ) : Type 0 where
  x : ℕ
  there : contains xs x ≡ true
  fails : p x ≡ false

missing : (p : ℕ → Bool) (xs : List ℕ) → list_all p xs ≡ false → Missing p xs
missing p [] h = absurd (grind arith)
missing p (x ∷ xs) h = elim (cases_Bool (p x)) [
  | inl passes ↦
      let m : Missing p xs = missing p xs (sym (ap (λ b. b && list_all p xs) passes) ∙ h) in
      record { x = m.x; there = or_right (eqb x m.x) (contains xs m.x) m.there; fails = m.fails }
  | inr fails ↦ record { x = x; there = or_left (eqb x x) (contains xs x) (eq-eqb x x refl); fails = fails }
]

-- distinct ids of a list of distinct ids are all of them where they are as many
pub all_by_count : (ss seen : List ℕ) → are_apart ss ≡ true → are_apart seen ≡ true → list_all (contains ss) seen ≡ true → list_all (contains seen) ss ≡ eqb (length seen) (length ss)
all_by_count ss seen apart seen_apart known = elim (cases_Bool (list_all (contains seen) ss)) [
  | inl all ↦ all ∙ sym (eq-eqb (length seen) (length ss) (omega (arith, fewer ss seen apart all, fewer seen ss seen_apart known)))
  | inr some ↦
      let m : Missing (contains seen) ss = missing (contains seen) ss some in
      let more : length (m.x ∷ seen) ≤ length ss = fewer (m.x ∷ seen) ss (rw m.fails seen_apart) (rw m.there known) in
      some ∙ sym (ne_eqb (length seen) (length ss) (λ e. omega arith))
]

-- ---- one more id, and ids of which none is repeated

apart_push-step : (x y : ℕ) (xs : List ℕ) → (contains xs y || eqb y x) ≡ false → are_apart (xs ++ x ∷ []) ≡ true → are_apart (y ∷ xs ++ x ∷ []) ≡ true
apart_push-step x y xs new rest = rw (any-push (λ z. eqb z y) xs x, flip x y, new, rest) refl

pub apart_push : (xs : List ℕ) (x : ℕ) → are_apart xs ≡ true → contains xs x ≡ false → are_apart (xs ++ x ∷ []) ≡ true
apart_push [] x apart new = refl
apart_push (y ∷ xs) x apart new =
    let a : (contains xs y ≡ false) × (are_apart xs ≡ true) = apart_parts y xs apart in
    let n : (eqb y x ≡ false) × (contains xs x ≡ false) = or_parts (eqb y x) (contains xs x) new in
    apart_push-step x y xs (rw (a.0, n.0) refl) (apart_push xs x a.1 n.1)

pub apart_unrepeated : (known ids : List ℕ) → are_apart known ≡ true → repeated known ids ≡ None → are_apart (known ++ ids) ≡ true
apart_unrepeated known [] apart none = rw (append-nil) apart
apart_unrepeated known (id ∷ ids) apart none = elim (cases_Bool (contains known id)) [
  | inl again ↦ absurd (let h = rw again at none in grind arith)
  | inr new ↦
      let rest : repeated (known ++ id ∷ []) ids ≡ None = rw new at none in
      rw (← append_assoc known (id ∷ []) ids) (apart_unrepeated (known ++ id ∷ []) ids (apart_push known id apart new) rest)
]
