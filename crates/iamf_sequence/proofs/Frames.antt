-- Frames in the order of their substreams.
use Rattle.std.proofs.Common.{◌≡◌, ℕ, zero, suc, ◌≤◌, ◌<◌, Bool, true, false, not, ◌&&◌, cond, eqb, Less, Equal, Greater, List, [], ◌∷◌, length, map, get_or, refl, sym, ap, ap₂, subst, ◌∙◌, inl, inr, ne_eqb, eq-eqb, add-one, arith}
use Rattle.std.specs.Prelude.{Option, Some, None, Result, Ok, Err, OnOk}
use Rattle.std.specs.Borrow.{Bor}
use Rattle.std.specs.Fn.{Mut, ComputesKey}
use Rattle.std.specs.Ordering.{is_lt, nat_cmp, ordering_index}
use Rattle.std.specs.List.{All, AllByRecursion, IsDistinct, filter}
use Rattle.std.specs.List.Sorted.{IsNonDecreasingBy, IsPermutation, IsPartitionPoint, IsSortedByKey, IsSortedByKeyClosure, IsStableByKey, ties}
use Rattle.std.proofs.lemmas.Bool.{cases_lt, or_parts}
use Rattle.std.proofs.lemmas.Bool.Decides.{nat_tests}
use Rattle.std.proofs.lemmas.Cmp.{nat_cmp_total}
use Rattle.std.proofs.lemmas.List.{get_or-map, length-map}
use Rattle.std.proofs.lemmas.List.Elements.{All-map, All-get_or, All-from_get_or}
use Rattle.std.proofs.lemmas.List.Sorted.{IsNonDecreasingBy-from_sort, IsPermutation-map, length_permutation, searchable_from_sorted}
use Rattle.std.proofs.lemmas.Map.Keys.{IsDistinct-IsPermutation, apart_from_distinct}
use Rattle.spec_rules.specs.Units.{contains, are_apart}
use Rattle.spec_sequence.specs.Parts.{FrameValue}
use Rattle.spec_rules.proofs.Basics.{flip}
use Rattle.spec_rules.proofs.DistinctIds.{apart_parts}
use Rattle.obu_data.specs.declared.frame.FrameView.{FrameView}
use Rattle.iamf_sequence.specs.declared.unit.Unit as temporal
use Rattle.iamf_sequence.specs.UnitView.{view_frame, view_unit, IsConsistent, frame_with, AreIncreasing, IsUnit}

abbrev pub key : FrameView → ℕ
key f = f.substream

-- ---- places

rising_step : (f : FrameView) (fs : List FrameView) (i : ℕ) (d : FrameView) → All (λ (g : FrameValue). f.substream < g.substream) (map view_frame fs) → i < length fs → f.substream < (get_or fs i d).substream
rising_step f fs i d above lt =
    subst (λ (g : FrameValue). f.substream < g.substream) (get_or-map view_frame fs i d (view_frame d) lt) (All-get_or (λ (g : FrameValue). f.substream < g.substream) (map view_frame fs) i (view_frame d) (simp length-map lt) above)

-- a frame is of a greater substream than the one before it
rising : (fs : List FrameView) → AreIncreasing (map view_frame fs) → (k : ℕ) (d : FrameView) → suc k < length fs → (get_or fs k d).substream < (get_or fs (suc k) d).substream
rising [] up k d lt = absurd (omega arith)
rising (f ∷ fs) up zero d lt = rising_step f fs 0 d up.0 (omega arith)
rising (f ∷ fs) up (suc k) d lt = rising fs up.1 k d (omega arith)

from_rising : (fs : List FrameView) → ((i j : ℕ) (d : FrameView) → i < j → j < length fs → (get_or fs i d).substream < (get_or fs j d).substream) → AreIncreasing (map view_frame fs)
from_rising [] h = tt
from_rising (f ∷ fs) h = (
  All-map (λ (g : FrameValue). f.substream < g.substream) view_frame fs (All-from_get_or (λ (g : FrameView). f.substream < g.substream) fs f (λ i lt. h 0 (suc i) f (omega arith) (omega arith))),
  from_rising fs (λ i j d below lt. h (suc i) (suc j) d (omega arith) (omega arith)),
)

-- ---- search

with_found : (s : ℕ) (fs : List FrameView) (i : ℕ) (d : FrameView) → AreIncreasing (map view_frame fs) → i < length fs → (get_or fs i d).substream ≡ s → frame_with s (map view_frame fs) ≡ Some (view_frame (get_or fs i d))
with_found s [] i d up lt is = absurd (omega arith)
with_found s (f ∷ fs) zero d up lt is = rw (eq-eqb f.substream s is) refl
with_found s (f ∷ fs) (suc i) d up lt is =
    let below : f.substream < (get_or fs i d).substream = rising_step f fs i d up.0 (omega arith) in
    rw (ne_eqb f.substream s (λ e. omega arith)) (with_found s fs i d up.1 (omega arith) is)

with_none : (s : ℕ) (fs : List FrameView) → ((k : ℕ) (d : FrameView) → k < length fs → (get_or fs k d).substream ≡ s → ⊥) → frame_with s (map view_frame fs) ≡ None
with_none s [] h = refl
with_none s (f ∷ fs) h = rw (ne_eqb f.substream s (h 0 f (omega arith))) (with_none s fs (λ k d lt. h (suc k) d (omega arith)))

cmp_equal : (a b : ℕ) → nat_cmp a b ≡ Equal → a ≡ b
cmp_equal a b e = grind (arith, nat_tests)

cmp_less : (a b : ℕ) → nat_cmp a b ≡ Less → (a ≡ b → ⊥)
cmp_less a b e same = grind (arith, nat_tests)

cmp_greater : (a b : ℕ) → nat_cmp a b ≡ Greater → (a ≡ b → ⊥)
cmp_greater a b e same = grind (arith, nat_tests)

not_below : (a b : ℕ) → a < b → is_lt (nat_cmp b a) ≡ false
not_below a b lt = grind (arith, nat_tests)

-- a search found the place
pub found_at : (s : ℕ) (fs : List FrameView) (i : ℕ) (d : FrameView) → i < length fs → ((d : FrameView) → nat_cmp (get_or fs i d).substream s ≡ Equal) → AreIncreasing (map view_frame fs)
    → frame_with s (map view_frame fs) ≡ Some (view_frame (get_or fs i d))
found_at s fs i d lt equal up = with_found s fs i d up lt (cmp_equal (get_or fs i d).substream s (equal d))

-- a search found none
pub found_none : (s : ℕ) (fs : List FrameView) (i : ℕ)
    → (IsNonDecreasingBy (λ (f : FrameView). ordering_index (nat_cmp f.substream s)) fs → IsPartitionPoint (λ (f : FrameView). nat_cmp f.substream s ≡ Less) (λ (f : FrameView). nat_cmp f.substream s ≡ Greater) fs i)
    → AreIncreasing (map view_frame fs) → frame_with s (map view_frame fs) ≡ None
found_none s fs i parts up = with_none s fs other where
  sorted : IsSortedByKey key nat_cmp fs
  sorted k d low lt = rw (add-one k) (not_below (get_or fs k d).substream (get_or fs (suc k) d).substream (rising fs up k d (omega arith)))

  split : IsPartitionPoint (λ (f : FrameView). nat_cmp f.substream s ≡ Less) (λ (f : FrameView). nat_cmp f.substream s ≡ Greater) fs i
  split = parts (searchable_from_sorted nat_cmp_total key fs s sorted)

  other : (k : ℕ) (d : FrameView) → k < length fs → (get_or fs k d).substream ≡ s → ⊥
  other k d lt = elim (cases_lt k i) [
    | inl below ↦ cmp_less (get_or fs k d).substream s (split.0 k d (omega arith) below)
    | inr above ↦ cmp_greater (get_or fs k d).substream s (split.1 k d above lt)
  ]

-- ---- a stable sort

-- the first frame of the substream is the first of all of that
abbrev first_view : List FrameView → Option FrameValue
first_view [] = None
first_view (f ∷ fs) = Some (view_frame f)

with_first : (s : ℕ) (test : FrameView → Bool) → ((f : FrameView) → test f ≡ eqb f.substream s) → (fs : List FrameView) → frame_with s (map view_frame fs) ≡ first_view (filter test fs)
with_first s test same [] = refl
with_first s test same (f ∷ fs) = rw (same f) (one (eqb f.substream s) (with_first s test same fs)) where
  one : (b : Bool) → frame_with s (map view_frame fs) ≡ first_view (filter test fs) → cond b (Some (view_frame f)) (frame_with s (map view_frame fs)) ≡ first_view (cond b (f ∷ filter test fs) (filter test fs))
  one true rest = refl
  one false rest = rest

tie : (a b : ℕ) → (not (is_lt (nat_cmp a b)) && not (is_lt (nat_cmp b a))) ≡ eqb b a
tie a b = grind (arith, nat_tests)

abbrev by_key : FrameView → FrameView → Bool
by_key x y = is_lt (nat_cmp x.substream y.substream)

-- of each substream the same frame is found
same_found : (old new : List FrameView) → length new ≡ length old → IsStableByKey key nat_cmp old new → (s : ℕ) → frame_with s (map view_frame new) ≡ frame_with s (map view_frame old)
same_found old [] count stable s = ap (λ (fs : List FrameView). frame_with s (map view_frame fs)) (none old count) where
  none : (fs : List FrameView) → 0 ≡ length fs → [] ≡ fs
  none [] e = refl
  none (f ∷ fs) e = absurd (omega arith)
same_found old (f ∷ fs) count stable s =
    with_first s (ties by_key one) (λ g. tie s g.substream) (f ∷ fs) ∙ ap first_view (stable one) ∙ sym (with_first s (ties by_key one) (λ g. tie s g.substream) old)
  where
    one : FrameView
    one = record { substream = s; trim = f.trim; bytes = f.bytes }

-- ---- frames of substreams that differ

others : (x : ℕ) (xs : List ℕ) → contains xs x ≡ false → AllByRecursion (λ y. eqb x y ≡ false) xs
others x [] h = tt
others x (y ∷ ys) h = let p = or_parts (eqb y x) (contains ys x) h in (flip x y ∙ p.0, others x ys p.1)

distinct : (xs : List ℕ) → are_apart xs ≡ true → IsDistinct eqb xs
unfolding IsDistinct
distinct [] h = tt
distinct (x ∷ xs) h = let p = apart_parts x xs h in (others x xs p.0, distinct xs p.1)

keys_of_views : (fs : List FrameView) → map (λ (f : FrameValue). f.substream) (map view_frame fs) ≡ map key fs
keys_of_views [] = refl
keys_of_views (f ∷ fs) = ap (λ (xs : List ℕ). f.substream ∷ xs) (keys_of_views fs)

apart_at : (a b : ℕ) → a ≤ b → eqb a b ≡ false → a < b
apart_at a b le e = grind (arith, nat_tests)

increasing : (old new : List FrameView) → IsPermutation old new → IsNonDecreasingBy key new → are_apart (map (λ (f : FrameValue). f.substream) (map view_frame old)) ≡ true → AreIncreasing (map view_frame new)
increasing old new moves up apart = from_rising new strict where
  differ : IsDistinct eqb (map key new)
  differ = IsDistinct-IsPermutation eqb flip (map key old) (map key new) (IsPermutation-map key old new moves) (distinct (map key old) (ap are_apart (sym (keys_of_views old)) ∙ apart))

  strict : (i j : ℕ) (d : FrameView) → i < j → j < length new → (get_or new i d).substream < (get_or new j d).substream
  strict i j d below lt =
      let e : eqb (get_or (map key new) i (key d)) (get_or (map key new) j (key d)) ≡ false = apart_from_distinct eqb (map key new) i j (key d) differ below (simp length-map lt) in
      let li : i < length new = omega arith in
      apart_at (get_or new i d).substream (get_or new j d).substream (up i j d (omega arith) lt)
      (ap₂ (λ a b. eqb a b) (sym (get_or-map key new i d (key d) li)) (sym (get_or-map key new j d (key d) lt)) ∙ e)

-- a sorted unit stands for what it stood for
sorted_unit : (u : temporal.Unit) (new : temporal.Unit) → new.trim ≡ u.trim → new.blocks ≡ u.blocks → IsPermutation u.frames.items new.frames.items → IsSortedByKey key nat_cmp new.frames.items
    → IsStableByKey key nat_cmp u.frames.items new.frames.items → are_apart (map (λ (f : FrameValue). f.substream) (view_unit u).frames) ≡ true → IsConsistent u → IsUnit new (view_unit u)
sorted_unit u new trim blocks moves sorted stable apart has = record {
  trim = rw trim has.trim;
  increasing = increasing u.frames.items new.frames.items moves (IsNonDecreasingBy-from_sort key new.frames.items sorted) apart;
  frames = same_found u.frames.items new.frames.items (length_permutation u.frames.items new.frames.items moves) stable;
  blocks = rw blocks refl;
  opaque = rw blocks has.opaque;
}

-- what a sort by the substream says, unless memory ran out
pub sort_says : {E F : Type 0} (r : Result (Unit {0}) E) (g : Mut F (Bor FrameView × Unit {0}) ℕ) (f : F) (u new : temporal.Unit) → new.trim ≡ u.trim → new.blocks ≡ u.blocks
    → IsPermutation u.frames.items new.frames.items → ComputesKey g key f → OnOk r (IsSortedByKeyClosure g nat_cmp f new.frames.items) → IsStableByKey key nat_cmp u.frames.items new.frames.items
    → OnOk r (are_apart (map (λ (f : FrameValue). f.substream) (view_unit u).frames) ≡ true → IsConsistent u → IsUnit new (view_unit u))
sort_says (Ok done) g f u new trim blocks moves computes sorted stable = sorted_unit u new trim blocks moves (sorted key computes) stable
sort_says (Err e) g f u new trim blocks moves computes sorted stable = tt
