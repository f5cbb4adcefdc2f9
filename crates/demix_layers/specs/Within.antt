-- How large the tops of the exact walk are, which the private functions ask so that none overflows; no definitions of what is
-- meant. Bounds are in multiples of the largest transmitted channel, n.
use Rattle.std.specs.Prelude.{ℕ, ◌≤◌, ◌*◌, unsigned_abs, ℤ}
use Rattle.spec_demix.specs.declared.Side.{Side}
use Rattle.spec_demix.specs.declared.Tops.{Tops}
use Rattle.spec_demix.specs.declared.Bed.{Bed}

abbrev pub AtMost : ℕ → ℕ → ℤ → Type 0
AtMost n k z = unsigned_abs z ≤ k * n

pub record IsWithinSide (n : ℕ) (v : Side) : Type 0 where
  pub two : AtMost n 3 v.two
  pub three : AtMost n 4000 v.three
  pub five : AtMost n 1 v.five
  pub surround : AtMost n 5000 v.surround
  pub side : AtMost n 1 v.side
  pub rear : AtMost n 6000000 v.rear

pub record IsWithinTops (n : ℕ) (v : Tops) : Type 0 where
  pub three : AtMost n 1 v.three
  pub two : AtMost n 40000000 v.two
  pub four : AtMost n 1 v.four
  pub back : AtMost n 50000000 v.back

-- all channels after a layer
pub record IsWithin (n : ℕ) (v : Bed) : Type 0 where
  pub mono : AtMost n 1 v.mono
  pub center : AtMost n 1 v.center
  pub low : AtMost n 1 v.low
  pub left : IsWithinSide n v.left
  pub right : IsWithinSide n v.right
  pub left_top : IsWithinTops n v.left_top
  pub right_top : IsWithinTops n v.right_top

pub record IsSentSide (n : ℕ) (v : Side) : Type 0 where
  pub two : AtMost n 1 v.two
  pub three : AtMost n 1 v.three
  pub five : AtMost n 1 v.five
  pub surround : AtMost n 1 v.surround
  pub side : AtMost n 1 v.side
  pub rear : AtMost n 1 v.rear

pub record IsSentTops (n : ℕ) (v : Tops) : Type 0 where
  pub three : AtMost n 1 v.three
  pub two : AtMost n 1 v.two
  pub four : AtMost n 1 v.four
  pub back : AtMost n 1 v.back

-- all channels that a layer transmits
pub record IsSent (n : ℕ) (v : Bed) : Type 0 where
  pub mono : AtMost n 1 v.mono
  pub center : AtMost n 1 v.center
  pub low : AtMost n 1 v.low
  pub left : IsSentSide n v.left
  pub right : IsSentSide n v.right
  pub left_top : IsSentTops n v.left_top
  pub right_top : IsSentTops n v.right_top
