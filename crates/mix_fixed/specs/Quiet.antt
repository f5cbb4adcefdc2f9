-- When 64 bits hold every channel in units, which the private functions ask so that none overflows; no definitions of what is meant.
use Rattle.std.specs.Prelude.{ℕ, ◌*◌, ◌^◌, ◌≤◌, ◌<◌, ◌≡◌, ◌≤ℤ◌, Bool, IsTrue, List, ℤ, pos, All, length, slice_index_or, unsigned_abs}
use Rattle.mix_fixed.specs.declared.scaled.Scaled.{Scaled}
use Rattle.mix_fixed.specs.declared.scaled.ScaledSide.{ScaledSide}
use Rattle.mix_fixed.specs.declared.scaled.ScaledTops.{ScaledTops}
use Rattle.mix_fixed.specs.declared.scaled.ScaledBed.{ScaledBed}
use Rattle.mix_fixed.specs.declared.scaled.Most.{Most}

-- a hundredth of the largest transmitted channel
abbrev pub hundredth : ℕ
hundredth = 5764700000000000

-- coded samples of 25 bits
abbrev pub AreShort : List ℤ → Type 0
AreShort coded = All (λ y. unsigned_abs y ≤ 2 ^ 24) coded

-- ---- what holds of each channel that is sent

pub record OfSides (P : Scaled → Type 0) (s : ScaledSide) : Type 0 where
  pub two : P s.two
  pub three : P s.three
  pub five : P s.five
  pub surround : P s.surround
  pub side : P s.side
  pub rear : P s.rear

pub record OfTops (P : Scaled → Type 0) (s : ScaledTops) : Type 0 where
  pub three : P s.three
  pub two : P s.two
  pub four : P s.four
  pub back : P s.back

pub record OfBed (P : Scaled → Type 0) (s : ScaledBed) : Type 0 where
  pub mono : P s.mono
  pub center : P s.center
  pub low : P s.low
  pub left : OfSides P s.left
  pub right : OfSides P s.right
  pub left_top : OfTops P s.left_top
  pub right_top : OfTops P s.right_top

-- both parts of its factor are at most some
pub record IsBelow (most : Most) (s : Scaled) : Type 0 where
  pub whole : s.whole ≤ℤ most.whole
  pub rest : s.rest ≤ℤ most.rest

-- a sample has 32 bits, and is small times the whole of its factor; where all factors are whole, there is no rest
pub record IsQuiet (exact : Bool) (coded : List ℤ) (s : Scaled) : Type 0 where
  pub place : s.place < length coded
  pub whole : unsigned_abs (slice_index_or coded s.place (pos 0)) * unsigned_abs s.whole ≤ 2 ^ 59
  pub short : unsigned_abs (slice_index_or coded s.place (pos 0)) ≤ 2 ^ 31
  pub no_rest : IsTrue exact → s.rest ≡ pos 0
