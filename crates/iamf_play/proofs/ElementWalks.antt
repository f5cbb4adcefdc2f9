-- A walk over the elements of a mix.
use Rattle.std.proofs.Common.{arith, ◌≡◌, ◌≢◌, ◌<◌, ◌≤◌, ◌+◌, ℕ, zero, suc, refl, sym, ap, subst, ◌∙◌, inl, inr, List, [], ◌∷◌, ◌++◌, length, get_or, set, Some}
use Rattle.std.specs.Prelude.{slice_get, ◌⊎◌}
use Rattle.std.proofs.Math.Logic.{⊎_elim}
use Rattle.std.proofs.lemmas.Bool.{cases_lt}
use Rattle.std.proofs.lemmas.List.{length-set}
use Rattle.std.proofs.lemmas.Option.{slice_get_within, slice_get-get_or}
use Rattle.spec_play.specs.Mixes.{MixedElement, Rendition}
use Rattle.iamf_sequence.specs.SequenceValue.{SequenceValue}
use Rattle.iamf_play.specs.declared.element.PlayedElement.{PlayedElement}
use Rattle.iamf_play.specs.PlayedElements.{IsPart, IsBegun, AreParts, AreBegun}

set_other : {X : Type 0} (xs : List X) (i k : ℕ) (x : X) → k ≢ i → slice_get (set xs i x) k ≡ slice_get xs k
set_other [] i k x ne = refl
set_other (y ∷ xs) zero zero x ne = absurd (ne refl)
set_other (y ∷ xs) zero (suc k) x ne = refl
set_other (y ∷ xs) (suc i) zero x ne = refl
set_other (y ∷ xs) (suc i) (suc k) x ne = set_other xs i k x (λ e. ne (ap suc e))

set_same : {X : Type 0} (xs : List X) (i : ℕ) (x y : X) → slice_get (set xs i x) i ≡ Some y → y ≡ x
set_same [] i x y e = absurd (cc)
set_same (z ∷ xs) zero x y e = cc
set_same (z ∷ xs) (suc i) x y e = set_same xs i x y e

-- the elements before a place have begun the unit
pub record ArePartly (s : SequenceValue) (r : Rendition) (u i : ℕ) (ps : List PlayedElement) : Type 0 where
  pub count : length ps ≡ length r.elements
  pub before : (k : ℕ) (m : MixedElement) (p : PlayedElement) → k < i → slice_get r.elements k ≡ Some m → slice_get ps k ≡ Some p → IsBegun s r m u p
  pub after : (k : ℕ) (m : MixedElement) (p : PlayedElement) → i ≤ k → slice_get r.elements k ≡ Some m → slice_get ps k ≡ Some p → IsPart s r m u p

pub partly_none : (s : SequenceValue) (r : Rendition) (u : ℕ) (ps : List PlayedElement) → AreParts s r u ps → ArePartly s r u 0 ps
partly_none s r u ps are = record { count = are.count; before = λ k m p h a b. absurd (omega arith); after = λ k m p h a b. are.each k m p a b }

pub partly_more : (s : SequenceValue) (r : Rendition) (u i : ℕ) (ps : List PlayedElement) (new : PlayedElement) → ArePartly s r u i ps → ((m : MixedElement) → slice_get r.elements i ≡ Some m → IsBegun s r m u new) → ArePartly s r u (i + 1) (set ps i new)
partly_more s r u i ps new are begun = record {
  count = length-set ps i new ∙ are.count;
  before = λ k m p h a b. ⊎_elim
      (λ (low : k < i). let other : k ≢ i = omega arith in are.before k m p low a (sym (set_other ps i k new other) ∙ b))
      (λ (high : i ≤ k). let here : k ≡ i = omega arith in
      subst (λ q. IsBegun s r m u q) (sym (set_same ps i new p (subst (λ j. slice_get (set ps i new) j ≡ Some p) here b))) (begun m (subst (λ j. slice_get r.elements j ≡ Some m) here a)))
      (cases_lt k i);
  after = λ k m p h a b. let other : k ≢ i = omega arith in are.after k m p (omega arith) a (sym (set_other ps i k new other) ∙ b);
}

pub partly_all : (s : SequenceValue) (r : Rendition) (u n : ℕ) (ps : List PlayedElement) → length ps ≤ n → ArePartly s r u n ps → AreBegun s r u ps
partly_all s r u n ps h are = record {
  count = are.count;
  each = λ k m p a b. let inside = slice_get_within ps k p b in are.before k m p (omega (arith, inside)) a b;
}

got_some : {X : Type 0} (xs : List X) (i : ℕ) → i < length xs → (x : X) × (slice_get xs i ≡ Some x)
got_some [] i h = absurd (omega arith)
got_some (x ∷ xs) zero h = (x, refl)
got_some (x ∷ xs) (suc i) h = got_some xs i (omega arith)

-- the next one has not begun the unit
pub partly_here : (s : SequenceValue) (r : Rendition) (u i : ℕ) (ps : List PlayedElement) (d : PlayedElement) → ArePartly s r u i ps → i < length ps → (m : MixedElement) × (slice_get r.elements i ≡ Some m) × IsPart s r m u (get_or ps i d)
partly_here s r u i ps d are h =
    let count = are.count in
    let m = got_some r.elements i (omega (arith, count)) in
    (m.0, m.1, are.after i m.0 (get_or ps i d) (omega arith) m.1 (slice_get-get_or ps i d h))

pub begun_here : (s : SequenceValue) (r : Rendition) (u i : ℕ) (ps : List PlayedElement) (d : PlayedElement) → AreBegun s r u ps → i < length ps → (m : MixedElement) × (slice_get r.elements i ≡ Some m) × IsBegun s r m u (get_or ps i d)
begun_here s r u i ps d are h =
    let count = are.count in
    let m = got_some r.elements i (omega (arith, count)) in
    (m.0, m.1, are.each i m.0 (get_or ps i d) m.1 (slice_get-get_or ps i d h))

-- one more at the end
got_pushed : {X : Type 0} (xs : List X) (x y : X) (k : ℕ) → slice_get (xs ++ x ∷ []) k ≡ Some y → (slice_get xs k ≡ Some y) ⊎ ((k ≡ length xs) × (y ≡ x))
got_pushed [] x y zero e = inr (refl, cc)
got_pushed [] x y (suc k) e = absurd (cc)
got_pushed (z ∷ xs) x y zero e = inl e
got_pushed (z ∷ xs) x y (suc k) e = ⊎_elim (λ old. inl old) (λ new. inr (ap suc new.0, new.1)) (got_pushed xs x y k e)

pub each_pushed : (r : Rendition) (Is : MixedElement → PlayedElement → Type 0) (ps : List PlayedElement) (new : PlayedElement)
    → ((k : ℕ) (m : MixedElement) (p : PlayedElement) → slice_get r.elements k ≡ Some m → slice_get ps k ≡ Some p → Is m p) → ((m : MixedElement) → slice_get r.elements (length ps) ≡ Some m → Is m new)
    → (k : ℕ) (m : MixedElement) (p : PlayedElement) → slice_get r.elements k ≡ Some m → slice_get (ps ++ new ∷ []) k ≡ Some p → Is m p
each_pushed r Is ps new old last k m p a b =
    ⊎_elim (λ before. old k m p a before)
    (λ here. subst (λ q. Is m q) (sym here.1) (last m (subst (λ j. slice_get r.elements j ≡ Some m) here.0 a)))
    (got_pushed ps new p k b)
