-- The trims at the starts of units, with one more unit and with one more frame.
use Rattle.std.proofs.Common.{◌≡◌, ℕ, ◌+◌, ◌≤◌, ◌<◌, true, false, List, [], ◌∷◌, ◌++◌, length, refl, sym, ap, subst, ◌∙◌, length-append, append-nil, le-ltb, true≢false, arith}
use Rattle.std.specs.Prelude.{sum, Some, None}
use Rattle.std.proofs.lemmas.Bool.{lt-ltb}
use Rattle.std.proofs.lemmas.List.{map-append}
use Rattle.std.proofs.lemmas.List.Sums.{sum_by-append}
use Rattle.spec_boxes.proofs.Rows.{sum-cons}
use Rattle.spec_sequence.specs.Parts.{FrameValue, UnitValue}
use Rattle.spec_bodies.specs.SequenceFile.{start_of, starts}
use Rattle.iamf_sequence.specs.UnitView.{opened, change_last}
use Rattle.iamf_mux.specs.declared.numbers.Starts.{Starts}
use Rattle.iamf_mux.specs.NumbersView.{AreStarts}
use Rattle.iamf_mux.specs.Trims.{first_start, AddsFrames, has_frame, is_last_framed}

-- a unit of nothing
abbrev empty : UnitValue
empty = record { frames = []; blocks = [] }

-- ---- the unit is begun, if it is not yet

last_framed-push : (us : List UnitValue) (v : UnitValue) → is_last_framed (us ++ v ∷ []) ≡ has_frame v.frames
last_framed-push [] v = refl
last_framed-push (u ∷ []) v = refl
last_framed-push (u ∷ w ∷ us) v = last_framed-push (w ∷ us) v

pub begins_unit : (old new : Starts) (unit : ℕ) (us : List UnitValue) → AreStarts old us → old.units ≤ unit → new.units ≡ old.units + 1 → new.trimmed ≡ old.trimmed → new.framed ≡ false → AreStarts new (opened unit us)
begins_unit old new unit us are next units trimmed framed =
    let next_is : opened unit us ≡ us ++ empty ∷ [] = rw (le-ltb unit (length us) (omega (arith, next, are.units))) refl in
    let more : starts (us ++ empty ∷ []) ≡ starts us ++ 0 ∷ [] = map-append (λ (u : UnitValue). start_of u.frames) us (empty ∷ []) in
    subst (AreStarts new) (sym next_is) (record {
      units = omega (arith, units, are.units, length-append us (empty ∷ []));
      trimmed = omega (arith, trimmed, are.trimmed, ap (λ (ns : List ℕ). sum ns) more, sum_by-append (λ (n : ℕ). n) (starts us) (0 ∷ []));
      framed = framed ∙ sym (last_framed-push us empty);
    })

pub stays_in_unit : (t : Starts) (unit : ℕ) (us : List UnitValue) → AreStarts t us → unit < t.units → AreStarts t (opened unit us)
stays_in_unit t unit us are before = rw (lt-ltb unit (length us) (omega (arith, before, are.units))) are

-- ---- more frames of the last unit

length-changed : (change : UnitValue → UnitValue) (us : List UnitValue) → length (change_last change us) ≡ length us
length-changed change [] = refl
length-changed change (v ∷ []) = refl
length-changed change (v ∷ w ∷ us) = omega (arith, length-changed change (w ∷ us))

no_frame : (fs : List FrameValue) → has_frame fs ≡ false → fs ≡ []
no_frame [] none = refl
no_frame (f ∷ fs) none = absurd (true≢false none)

no_start : (fs : List FrameValue) → first_start fs ≡ None → fs ≡ []
no_start [] none = refl
no_start (f ∷ fs) none = absurd cc

same_start : (xs fs : List FrameValue) → has_frame xs ≡ true → (start_of (xs ++ fs) ≡ start_of xs) × (has_frame (xs ++ fs) ≡ true)
same_start [] fs some = absurd (true≢false (sym some))
same_start (x ∷ xs) fs some = (refl, refl)

first_is : (fs : List FrameValue) (n : ℕ) → first_start fs ≡ Some n → (start_of fs ≡ n) × (has_frame fs ≡ true)
first_is [] n is = absurd cc
first_is (f ∷ fs) n is = (cc, refl)

-- the starts, and whether the last unit has a frame
pub record AreLike (us vs : List UnitValue) (more : ℕ) : Type 0 where
  pub total : sum (starts vs) ≡ sum (starts us) + more
  pub framed : is_last_framed vs ≡ true

one_total : (n m more : ℕ) → n ≡ m + more → sum (n ∷ []) ≡ sum (m ∷ []) + more
one_total n m more is = sum-cons n [] ∙ omega (arith, is, sum-cons m [])

after : (change : UnitValue → UnitValue) (v w : UnitValue) (us : List UnitValue) (more : ℕ) → AreLike (w ∷ us) (change_last change (w ∷ us)) more → AreLike (v ∷ w ∷ us) (v ∷ change_last change (w ∷ us)) more
after change v w us more rest = record {
  total = sum-cons (start_of v.frames) (starts (change_last change (w ∷ us))) ∙ omega (arith, rest.total, sum-cons (start_of v.frames) (starts (w ∷ us)));
  framed = last (change_last change (w ∷ us)) (length-changed change (w ∷ us)) rest.framed;
} where
  last : (vs : List UnitValue) → length vs ≡ length (w ∷ us) → is_last_framed vs ≡ true → is_last_framed (v ∷ vs) ≡ true
  last [] count framed = absurd (omega (arith, count))
  last (x ∷ xs) count framed = framed

framed_like : (change : UnitValue → UnitValue) (fs : List FrameValue) (us : List UnitValue) → AddsFrames change fs → is_last_framed us ≡ true → AreLike us (change_last change us) 0
framed_like change fs [] adds framed = absurd (true≢false (sym framed))
framed_like change fs (v ∷ []) adds framed =
    let same = same_start v.frames fs framed in
    record { total = one_total (start_of (change v).frames) (start_of v.frames) 0 (omega (arith, ap start_of (adds v), same.0)); framed = ap has_frame (adds v) ∙ same.1 }
framed_like change fs (v ∷ w ∷ us) adds framed = after change v w us 0 (framed_like change fs (w ∷ us) adds framed)

unframed_like : (change : UnitValue → UnitValue) (fs : List FrameValue) (n : ℕ) (us : List UnitValue) → AddsFrames change fs → first_start fs ≡ Some n → 0 < length us → is_last_framed us ≡ false → AreLike us (change_last change us) n
unframed_like change fs n [] adds is some framed = absurd (omega arith)
unframed_like change fs n (v ∷ []) adds is some framed =
    let none = no_frame v.frames framed in
    let frames : (change v).frames ≡ fs = adds v ∙ ap (λ (xs : List FrameValue). xs ++ fs) none in
    let first = first_is fs n is in
    record { total = one_total (start_of (change v).frames) (start_of v.frames) n (omega (arith, ap start_of frames, first.0, ap start_of none)); framed = ap has_frame frames ∙ first.1 }
unframed_like change fs n (v ∷ w ∷ us) adds is some framed = after change v w us n (unframed_like change fs n (w ∷ us) adds is (omega arith) framed)

-- no frames change nothing
none_like : (change : UnitValue → UnitValue) (us : List UnitValue) → AddsFrames change [] → (starts (change_last change us) ≡ starts us) × (is_last_framed (change_last change us) ≡ is_last_framed us)
none_like change [] adds = (refl, refl)
none_like change (v ∷ []) adds =
    let same : (change v).frames ≡ v.frames = adds v ∙ append-nil v.frames in
    (ap (λ (xs : List FrameValue). start_of xs ∷ []) same, ap has_frame same)
none_like change (v ∷ w ∷ us) adds =
    let rest = none_like change (w ∷ us) adds in
    (ap (λ (ns : List ℕ). start_of v.frames ∷ ns) rest.0, last (change_last change (w ∷ us)) (length-changed change (w ∷ us)) rest.1)
  where
    last : (vs : List UnitValue) → length vs ≡ length (w ∷ us) → is_last_framed vs ≡ is_last_framed (w ∷ us) → is_last_framed (v ∷ vs) ≡ is_last_framed (w ∷ us)
    last [] count same = absurd (omega (arith, count))
    last (x ∷ xs) count same = same

-- ---- the same of what is kept of them

pub puts_next : (t : Starts) (start : ℕ) (us : List UnitValue) (fs : List FrameValue) (change : UnitValue → UnitValue) → AreStarts t us → t.framed ≡ true → first_start fs ≡ Some start → AddsFrames change fs → AreStarts t (change_last change us)
puts_next t start us fs change are framed is adds =
    let like = framed_like change fs us adds (sym are.framed ∙ framed) in
    record { units = are.units ∙ sym (length-changed change us); trimmed = omega (arith, are.trimmed, like.total); framed = framed ∙ sym like.framed }

pub puts_first : (old new : Starts) (start : ℕ) (us : List UnitValue) (fs : List FrameValue) (change : UnitValue → UnitValue) → AreStarts old us → 0 < old.units → old.framed ≡ false → first_start fs ≡ Some start → AddsFrames change fs
    → new.units ≡ old.units → new.trimmed ≡ old.trimmed + start → new.framed ≡ true → AreStarts new (change_last change us)
puts_first old new start us fs change are some framed is adds units trimmed now =
    let like = unframed_like change fs start us adds is (omega (arith, some, are.units)) (sym are.framed ∙ framed) in
    record { units = units ∙ are.units ∙ sym (length-changed change us); trimmed = omega (arith, trimmed, are.trimmed, like.total); framed = now ∙ sym like.framed }

pub puts_none : (t : Starts) (us : List UnitValue) (fs : List FrameValue) (change : UnitValue → UnitValue) → AreStarts t us → first_start fs ≡ None → AddsFrames change fs → AreStarts t (change_last change us)
puts_none t us fs change are none adds =
    let like = none_like change us (subst (AddsFrames change) (no_start fs none) adds) in
    record { units = are.units ∙ sym (length-changed change us); trimmed = are.trimmed ∙ ap (λ (ns : List ℕ). sum ns) (sym like.0); framed = are.framed ∙ sym like.1 }
