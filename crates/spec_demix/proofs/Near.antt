-- How far numbers may be from 0: after a layer, and over a step from one layer to the next.
use Rattle.std.specs.Prelude.{ℕ, ◌*◌, ◌≡◌, ◌≤◌, ◌<◌, ℤ, pos, ◌+ℤ◌, ◌-ℤ◌, ◌*ℤ◌, unsigned_abs}
use Rattle.spec_demix.specs.declared.Bed.{Bed}
use Rattle.spec_demix.specs.declared.Kind.{Kind}
use Rattle.spec_demix.specs.declared.Side.{Side}
use Rattle.spec_demix.specs.declared.Tops.{Tops}
use Rattle.spec_gains.proofs.ModeLemmas.{Row, alpha_of, beta_of, gamma_of, delta_of}

-- at most k units from 0
abbrev pub Near : ℕ → ℕ → ℤ → Type 0
Near k unit e = unsigned_abs e ≤ k * unit

-- the errors of one side after a layer of this kind
pub record IsHeld (kind unit : ℕ) (e : Side) : Type 0 where
  pub two : 2 ≤ kind → kind < 3 → Near 3 unit e.two
  pub three : 3 ≤ kind → kind < 5 → Near 5 unit e.three
  pub five : 5 ≤ kind → Near 1 unit e.five
  pub surround : 5 ≤ kind → kind < 7 → Near 10 unit e.surround
  pub side : 7 ≤ kind → Near 1 unit e.side
  pub rear : 7 ≤ kind → Near 17 unit e.rear

-- how a layer changes them
pub record IsStep (before now : ℕ) (mode : Row) (unit : ℕ) (center : ℤ) (e f : Side) : Type 0 where
  pub two_kept : 2 ≤ before → f.two ≡ e.two
  pub two : before < 2 → 2 ≤ now → Near 3 unit f.two
  pub three_kept : 3 ≤ before → f.three ≡ e.three
  pub three : before < 3 → 3 ≤ now → Near 1000 unit (pos 1000 *ℤ f.three -ℤ pos 1000 *ℤ f.two +ℤ pos 707 *ℤ center)
  pub given : before < 3 → 3 ≤ now → Near 1 unit center
  pub five_kept : 5 ≤ before → f.five ≡ e.five
  pub five : before < 5 → 5 ≤ now → Near 1 unit f.five
  pub surround_kept : 5 ≤ before → f.surround ≡ e.surround
  pub surround : before < 5 → 5 ≤ now → Near (delta_of mode) unit (pos (delta_of mode) *ℤ f.surround -ℤ pos 1000 *ℤ f.three +ℤ pos 1000 *ℤ f.five)
  pub side_kept : 7 ≤ before → f.side ≡ e.side
  pub side : before < 7 → 7 ≤ now → Near 1 unit f.side
  pub rear_kept : 7 ≤ before → f.rear ≡ e.rear
  pub rear : before < 7 → 7 ≤ now → Near (beta_of mode) unit (pos (beta_of mode) *ℤ f.rear -ℤ pos 1000 *ℤ f.surround +ℤ pos (alpha_of mode) *ℤ f.side)

-- the errors of one side's tops after a layer of this kind
pub record IsTopHeld (kind : Kind) (unit : ℕ) (e : Tops) : Type 0 where
  pub three : 2 ≤ kind.height → kind.surround < 5 → Near 1 unit e.three
  pub two : 2 ≤ kind.height → kind.height < 4 → 5 ≤ kind.surround → Near 7 unit e.two
  pub four : 4 ≤ kind.height → Near 1 unit e.four
  pub back : 4 ≤ kind.height → Near 13 unit e.back

pub record IsTopStep (before now : Kind) (mode : Row) (w unit : ℕ) (surround : ℤ) (e f : Tops) : Type 0 where
  pub three_kept : 2 ≤ before.height → f.three ≡ e.three
  pub three : before.height < 2 → 2 ≤ now.height → now.surround < 5 → Near 1 unit f.three
  pub two_kept : 2 ≤ before.height → 5 ≤ before.surround → f.two ≡ e.two
  pub two : before.height < 2 → 2 ≤ now.height → now.height < 4 → 5 ≤ now.surround → Near 7 unit f.two
  pub two_left : 3 ≤ before.surround → before.surround < 5 → 5 ≤ now.surround → Near 10000000 unit (pos 10000000 *ℤ f.two -ℤ pos 10000000 *ℤ e.three +ℤ pos (w * delta_of mode) *ℤ surround)
  pub four_kept : 4 ≤ before.height → f.four ≡ e.four
  pub four : before.height < 4 → 4 ≤ now.height → Near 1 unit f.four
  pub back_kept : 4 ≤ before.height → f.back ≡ e.back
  pub back : before.height < 2 → 4 ≤ now.height → Near 13 unit f.back
  pub back_split : 2 ≤ before.height → before.height < 4 → 4 ≤ now.height → Near (gamma_of mode) unit (pos (gamma_of mode) *ℤ f.back -ℤ pos 1000 *ℤ f.two +ℤ pos 1000 *ℤ f.four)

-- the errors of all channels, where mono's is counted twice
pub record IsBedHeld (kind : Kind) (unit : ℕ) (e : Bed) : Type 0 where
  pub mono : kind.surround < 2 → Near 2 unit e.mono
  pub center : 3 ≤ kind.surround → Near 1 unit e.center
  pub low : 3 ≤ kind.surround → Near 1 unit e.low
  pub left : IsHeld kind.surround unit e.left
  pub right : IsHeld kind.surround unit e.right
  pub left_top : IsTopHeld kind unit e.left_top
  pub right_top : IsTopHeld kind unit e.right_top

pub record IsBedStep (before now : Kind) (mode : Row) (w unit : ℕ) (e f : Bed) : Type 0 where
  pub center_kept : 3 ≤ before.surround → f.center ≡ e.center
  pub low_kept : 3 ≤ before.surround → f.low ≡ e.low
  pub low : before.surround < 3 → 3 ≤ now.surround → Near 1 unit f.low
  pub stereo : before.surround < 2 → 2 ≤ now.surround → Near 1 unit f.left.two
  pub other : before.surround < 2 → 2 ≤ now.surround → f.right.two ≡ e.mono -ℤ f.left.two
  pub mono_kept : now.surround < 2 → f.mono ≡ e.mono
  pub left : (before.surround < 2 → 2 ≤ now.surround → Near 3 unit f.left.two) → IsStep before.surround now.surround mode unit f.center e.left f.left
  pub right : (before.surround < 2 → 2 ≤ now.surround → Near 3 unit f.right.two) → IsStep before.surround now.surround mode unit f.center e.right f.right
  pub left_top : IsTopStep before now mode w unit f.left.surround e.left_top f.left_top
  pub right_top : IsTopStep before now mode w unit f.right.surround e.right_top f.right_top
