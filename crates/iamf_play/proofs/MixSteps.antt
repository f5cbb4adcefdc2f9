-- The mix at a tick of a rendition that is played.
use Rattle.std.proofs.Common.{arith, ◌≡◌, ◌<◌, ◌≤◌, ◌+◌, ◌*◌, ◌^◌, ℕ, ℤ, pos, Bool, true, false, ◌||◌, refl, sym, ap, subst, ◌∙◌, List, [], ◌∷◌, ◌++◌, map, length, get_or, set, take, unsigned_abs}
use Rattle.std.specs.Prelude.{nat_lt}
use Rattle.std.specs.List.{All}
use borrow.Rule.Slice.PartMut.{put_mid}
use Rattle.std.proofs.lemmas.Slice.{take-put_mid}
use Rattle.std.proofs.lemmas.List.{set-get_or, get_or_default}
use Rattle.spec_play.specs.Mixes.{MixedElement, Rendition}
use Rattle.spec_play.specs.GainsOverTime.{gain_at}
use Rattle.spec_play.specs.Selection.{is_gain_above, coded_channels}
use Rattle.iamf_mixing.specs.Sums.{base}
use Rattle.spec_play.specs.Laws.{IsPlayable}
use Rattle.spec_rules.specs.Units.{is_none_of}
use Rattle.spec_play.proofs.Tests.{each_back, neither}
use Rattle.spec_play.proofs.SelectedMixes.{is_selected, few_elements}
use Rattle.spec_play.proofs.GainsBounded.{gain_bounded}

pub few : (r : Rendition) → IsPlayable r → length r.elements ≤ 28
few r playable = few_elements r (is_selected r playable.selected).shape

not_none : {X : Type 0} (xs : List X) → is_none_of xs ≡ false → 0 < length xs
not_none [] e = absurd cc
not_none (x ∷ xs) e = omega arith

pub some : (r : Rendition) → IsPlayable r → 0 < length r.elements
some r playable =
    not_none r.elements (neither (is_none_of r.elements) (nat_lt 28 (length r.elements) || nat_lt 28 (coded_channels r.elements)) (is_selected r playable.selected).shape).0

-- ---- what is added to, once it is not fresh

pub base_is : (fresh : Bool) (z y : ℤ) → (fresh ≡ true → ⊥) → base fresh z ≡ y → z ≡ y
base_is true z y old e = absurd (old refl)
base_is false z y old e = e

pub base_low : (fresh : Bool) (sums : List ℤ) (most : ℕ) → (fresh ≡ true → ⊥) → ((c : ℕ) → c < length sums → unsigned_abs (base fresh (get_or sums c (pos 0))) ≤ most) → (c : ℕ) → c < length sums → unsigned_abs (get_or sums c (pos 0)) ≤ most
base_low true sums most old low = absurd (old refl)
base_low false sums most old low = low

pub output_low : (r : Rendition) (tick : ℕ) → IsPlayable r → gain_at r r.output tick ≤ 39810717055340
output_low r tick playable =
    gain_bounded r r.output tick (each_back (λ g. is_gain_above r g ≡ false) (map (λ (m : MixedElement). m.gain) r.elements) (r.output ∷ []) (is_selected r playable.selected).gains).0

-- sums that grew so often are small
pub all_small : (sums : List ℤ) (n most : ℕ) → n ≤ 28 → 28 * 2 ^ 73 < most → ((c : ℕ) → c < length sums → unsigned_abs (get_or sums c (pos 0)) ≤ n * 2 ^ 73) → All (λ z. unsigned_abs z < most) sums
all_small sums n most h k low = λ c d inside.
    let here : unsigned_abs (get_or sums c (pos 0)) ≤ n * 2 ^ 73 = low c inside in
    let small : unsigned_abs (get_or sums c (pos 0)) < most = omega arith in
    subst (λ (z : ℤ). unsigned_abs z < most) (sym (get_or_default sums c d (pos 0) inside)) small

pub set_again : {X : Type 0} (xs : List X) (i : ℕ) (d new : X) → new ≡ get_or xs i d → set xs i new ≡ xs
set_again xs i d new same = ap (set xs i) same ∙ set-get_or xs i d

-- ---- ticks one after the other

pub next_taken : {X : Type 0} (k n end : ℕ) (xs ys : List X) → length ys ≡ n → (k + 1) * n ≤ length xs → take ((k + 1) * n) (put_mid (k * n) end xs ys) ≡ take (k * n) xs ++ ys
next_taken k n end xs ys long room = take-put_mid (k * n) end xs ys ((k + 1) * n) (omega (arith, long)) (omega arith)
