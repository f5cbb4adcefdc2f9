-- The downmixes of the channels of a layout to the layouts below it: IAMF 1.0.0, "Demixing Info Parameter Data". On the left,
-- with the surround kind or the number of height channels beside a channel's name, and on the right alike:
--   Ls5 = alpha Lss7 + beta Lrs7,  L3 = L5 + delta Ls5,  L2 = L3 + 0.707 C,  M = (L2 + R2) / 2,
--   Ltf2 = Ltf4 + gamma Ltb4,  and the top of 3.1.2 is Ltf2 + w delta Ls5.
-- All decimals are exact: coefficients stand in thousandths, and the weight w in ten-thousandths.
use Rattle.std.specs.Prelude.{ℕ, ◌*◌, ℤ, pos, ◌+ℤ◌, ◌*ℤ◌, if◌then◌else◌, nat_le}
use Rattle.spec_gains.specs.Modes.{Coefficients}
use Rattle.spec_demix.specs.declared.Kind.{Kind}
use Rattle.spec_demix.specs.declared.Side.{Side}
use Rattle.spec_demix.specs.declared.Tops.{Tops}
use Rattle.spec_demix.specs.declared.Bed.{Bed}

-- one side of the channels of one layout
pub record Half : Type 0 where
  pub front : ℤ
  pub surround : ℤ
  pub side : ℤ
  pub rear : ℤ
  pub top : ℤ
  pub top_back : ℤ

-- the channels of one layout, as tops over one bottom; what the layout does not have is not looked at
pub record Channels : Type 0 where
  pub mono : ℤ
  pub center : ℤ
  pub low : ℤ
  pub left : Half
  pub right : Half

-- the surround of 5.1, in thousandths
abbrev pub back_of : ℕ → Coefficients → Half → ℤ
back_of surround mode h =
    if nat_le 7 surround then pos mode.alpha *ℤ h.side +ℤ pos mode.beta *ℤ h.rear else pos 1000 *ℤ h.surround

-- one side of every downmix, in parts of 10^10
abbrev pub side_down : ℕ → Coefficients → ℤ → Half → Side
side_down surround mode center h =
    let back = back_of surround mode h in
    let three = if nat_le 5 surround then pos 10000000000 *ℤ h.front +ℤ pos (10000 * mode.delta) *ℤ back else pos 10000000000 *ℤ h.front in
    record {
      two = if nat_le 3 surround then three +ℤ pos 7070000000 *ℤ center else pos 10000000000 *ℤ h.front;
      three = three;
      five = pos 10000000000 *ℤ h.front;
      surround = pos 10000000 *ℤ back;
      side = pos 10000000000 *ℤ h.side;
      rear = pos 10000000000 *ℤ h.rear;
    }

-- its tops, in parts of 10^10, from the surround of 5.1 in thousandths
abbrev pub tops_down : Kind → Coefficients → ℕ → ℤ → ℤ → ℤ → Tops
tops_down kind mode w back top top_back =
    let two = if nat_le 4 kind.height then pos 10000000000 *ℤ top +ℤ pos (10000000 * mode.gamma) *ℤ top_back else pos 10000000000 *ℤ top in
    record {
      three = if nat_le 5 kind.surround then two +ℤ pos (w * mode.delta) *ℤ back else pos 10000000000 *ℤ top;
      two = two;
      four = pos 10000000000 *ℤ top;
      back = pos 10000000000 *ℤ top_back;
    }

-- every downmix of the channels of a layout with these counts, in parts of 10^10, but for mono in parts of 2 * 10^10
abbrev pub down : Kind → Coefficients → ℕ → Channels → Bed
down kind mode w x =
    let left = side_down kind.surround mode x.center x.left in
    let right = side_down kind.surround mode x.center x.right in
    record {
      mono = if nat_le 2 kind.surround then left.two +ℤ right.two else pos 20000000000 *ℤ x.mono;
      center = pos 10000000000 *ℤ x.center;
      low = pos 10000000000 *ℤ x.low;
      left = left;
      right = right;
      left_top = tops_down kind mode w (back_of kind.surround mode x.left) x.left.top x.left.top_back;
      right_top = tops_down kind mode w (back_of kind.surround mode x.right) x.right.top x.right.top_back;
    }
