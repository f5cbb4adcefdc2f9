-- The walk of the fixed point without its roundings: it gives the list of channels that fits, as fractions.
use Rattle.std.specs.Prelude.{ℕ, zero, suc, ◌*◌, ℤ, pos, ◌-ℤ◌, ◌*ℤ◌, if◌then◌else◌, nat_le, List}
use Rattle.spec_gains.specs.Modes.{Coefficients}
use Rattle.spec_layouts.specs.declared.Channel.{Channel}
use Rattle.spec_layouts.specs.declared.Channel.TheVariants.{M, L, R, C, Lfe, Ls, Rs, Lss, Rss, Lrs, Rrs, Ltf, Rtf, Ltb, Rtb}
use Rattle.spec_demix.specs.declared.Kind.{Kind}
use Rattle.spec_demix.specs.Kinds.{reaches, gives_three, gives_two, leaves_three, gives_four, gives_back, splits_two}
use Rattle.spec_demix.specs.declared.DemixLayer.{DemixLayer}
use Rattle.spec_demix.specs.declared.Side.{Side}
use Rattle.spec_demix.specs.declared.Tops.{Tops}
use Rattle.spec_demix.specs.declared.Bed.{Bed}
use Rattle.spec_demix.specs.Downmix.{Half, Channels}
use Rattle.spec_demix.specs.FixedWalk.{sent_of}
use Rattle.spec_demix.specs.Sent.{kinds_of, sent_by}

-- The walk keeps tops. Their bottoms are 10^12, but for the left and right of 3.1.2 10^15, for the surround of 5.1
-- 10^12 delta, for the rear of 7.1 10^12 delta beta, for the top of two 10^19, and for the back top 10^16 gamma.

abbrev pub exact_first_side : Coefficients → Side → Side
exact_first_side mode y = record {
  two = y.two;
  three = pos 1000 *ℤ y.three;
  five = y.five;
  surround = pos mode.delta *ℤ y.surround;
  side = y.side;
  rear = pos (mode.delta * mode.beta) *ℤ y.rear;
}

abbrev pub exact_first_tops : Coefficients → Tops → Tops
exact_first_tops mode y = record {
  three = y.three;
  two = pos 10000000 *ℤ y.two;
  four = y.four;
  back = pos (10000 * mode.gamma) *ℤ y.back;
}

abbrev pub exact_first : Coefficients → Bed → Bed
exact_first mode y = record {
  mono = y.mono;
  center = y.center;
  low = y.low;
  left = exact_first_side mode y.left;
  right = exact_first_side mode y.right;
  left_top = exact_first_tops mode y.left_top;
  right_top = exact_first_tops mode y.right_top;
}

abbrev pub exact_side_after : ℕ → ℕ → Coefficients → ℤ → ℤ → Side → Side → Side
exact_side_after before now mode two center old y =
    let three = if reaches 3 before now then pos 1000 *ℤ two -ℤ pos 707 *ℤ center else old.three in
    let surround = if reaches 5 before now then three -ℤ pos 1000 *ℤ y.five else old.surround in
    record {
      two = two;
      three = three;
      five = sent_of 5 before now old.five y.five;
      surround = surround;
      side = sent_of 7 before now old.side y.side;
      rear = if reaches 7 before now then pos 1000 *ℤ surround -ℤ pos (mode.alpha * mode.delta) *ℤ y.side else old.rear;
    }

abbrev pub exact_tops_after : Kind → Kind → Coefficients → ℕ → ℤ → Tops → Tops → Tops
exact_tops_after before now mode w surround old y =
    let two = if leaves_three before now then pos 10000000 *ℤ old.three -ℤ pos w *ℤ surround else (if gives_two before now then pos 10000000 *ℤ y.two else old.two) in
    record {
      three = if gives_three before now then y.three else old.three;
      two = two;
      four = if gives_four before now then y.four else old.four;
      back = if splits_two before now then two -ℤ pos 10000000 *ℤ y.four else (if gives_back before now then pos (10000 * mode.gamma) *ℤ y.back else old.back);
    }

abbrev pub exact_after : Kind → Kind → Coefficients → ℕ → Bed → Bed → Bed
exact_after before now mode w old y =
    let center = sent_of 3 before.surround now.surround old.center y.center in
    let left = exact_side_after before.surround now.surround mode (sent_of 2 before.surround now.surround old.left.two y.left.two) center old.left y.left in
    let right = exact_side_after before.surround now.surround mode (sent_of 2 before.surround now.surround old.right.two (pos 2 *ℤ old.mono -ℤ y.left.two)) center old.right y.right in
    record {
      mono = old.mono;
      center = center;
      low = sent_of 3 before.surround now.surround old.low y.low;
      left = left;
      right = right;
      left_top = exact_tops_after before now mode w left.surround old.left_top y.left_top;
      right_top = exact_tops_after before now mode w right.surround old.right_top y.right_top;
    }

-- all channels after layer j
abbrev pub exact : (ℕ → Kind) → Coefficients → ℕ → (ℕ → Bed) → ℕ → Bed
exact kind mode w y zero = exact_first mode (y 0)
exact kind mode w y (suc j) = exact_after (kind j) (kind (suc j)) mode w (exact kind mode w y j) (y (suc j))

-- ---- the same over one bottom

abbrev pub scale_of : Coefficients → ℕ
scale_of mode = mode.beta * (mode.gamma * mode.delta)

-- 10^19 beta gamma delta
abbrev pub bottom_of : Coefficients → ℕ
bottom_of mode = 10000000000000000000 * scale_of mode

-- one side of the target's channels over that bottom
abbrev pub exact_half : Kind → Coefficients → Side → Tops → Half
exact_half kind mode v t = record {
  front = if nat_le 5 kind.surround then pos (10000000 * scale_of mode) *ℤ v.five else (if nat_le 3 kind.surround then pos (10000 * scale_of mode) *ℤ v.three else pos (10000000 * scale_of mode) *ℤ v.two);
  surround = pos (10000000 * (mode.beta * mode.gamma)) *ℤ v.surround;
  side = pos (10000000 * scale_of mode) *ℤ v.side;
  rear = pos (10000000 * mode.gamma) *ℤ v.rear;
  top = if nat_le 4 kind.height then pos (10000000 * scale_of mode) *ℤ t.four else (if nat_le 5 kind.surround then pos (scale_of mode) *ℤ t.two else pos (10000000 * scale_of mode) *ℤ t.three);
  top_back = pos (1000 * (mode.beta * mode.delta)) *ℤ t.back;
}

abbrev pub exact_channels : Kind → Coefficients → Bed → Channels
exact_channels kind mode v = record {
  mono = pos (10000000 * scale_of mode) *ℤ v.mono;
  center = pos (10000000 * scale_of mode) *ℤ v.center;
  low = pos (10000000 * scale_of mode) *ℤ v.low;
  left = exact_half kind mode v.left v.left_top;
  right = exact_half kind mode v.right v.right_top;
}

-- ---- the fractions that the walk gives, each over its own bottom

pub record Quotient : Type 0 where
  pub top : ℤ
  pub bottom : ℕ

pub record HalfQuotients : Type 0 where
  pub front : Quotient
  pub surround : Quotient
  pub side : Quotient
  pub rear : Quotient
  pub top : Quotient
  pub top_back : Quotient

pub record Quotients : Type 0 where
  pub mono : Quotient
  pub center : Quotient
  pub low : Quotient
  pub left : HalfQuotients
  pub right : HalfQuotients

abbrev pub over : ℤ → ℕ → Quotient
over top bottom = record { top = top; bottom = bottom }

abbrev pub front_fraction : Kind → Side → Quotient
front_fraction kind v = if nat_le 5 kind.surround then over v.five 1000000000000 else (if nat_le 3 kind.surround then over v.three 1000000000000000 else over v.two 1000000000000)

abbrev pub surround_fraction : Coefficients → Side → Quotient
surround_fraction mode v = over v.surround (1000000000000 * mode.delta)

abbrev pub rear_fraction : Coefficients → Side → Quotient
rear_fraction mode v = over v.rear (1000000000000 * (mode.delta * mode.beta))

abbrev pub top_fraction : Kind → Tops → Quotient
top_fraction kind v = if nat_le 4 kind.height then over v.four 1000000000000 else (if nat_le 5 kind.surround then over v.two 10000000000000000000 else over v.three 1000000000000)

abbrev pub back_fraction : Coefficients → Tops → Quotient
back_fraction mode v = over v.back (10000000000000000 * mode.gamma)

abbrev pub parts_of : Kind → Coefficients → Side → Tops → HalfQuotients
parts_of kind mode v t = record {
  front = front_fraction kind v;
  surround = surround_fraction mode v;
  side = over v.side 1000000000000;
  rear = rear_fraction mode v;
  top = top_fraction kind t;
  top_back = back_fraction mode t;
}

abbrev pub whole_of : Kind → Coefficients → Bed → Quotients
whole_of kind mode v = record {
  mono = over v.mono 1000000000000;
  center = over v.center 1000000000000;
  low = over v.low 1000000000000;
  left = parts_of kind mode v.left v.left_top;
  right = parts_of kind mode v.right v.right_top;
}

abbrev pub part_of : Quotients → Channel → Quotient
part_of x M = x.mono
part_of x L = x.left.front
part_of x R = x.right.front
part_of x C = x.center
part_of x Lfe = x.low
part_of x Ls = x.left.surround
part_of x Rs = x.right.surround
part_of x Lss = x.left.side
part_of x Rss = x.right.side
part_of x Lrs = x.left.rear
part_of x Rrs = x.right.rear
part_of x Ltf = x.left.top
part_of x Rtf = x.right.top
part_of x Ltb = x.left.top_back
part_of x Rtb = x.right.top_back

-- a channel of a layout of this kind, as the exact walk has it
abbrev pub fraction_of : Kind → Coefficients → Bed → Channel → Quotient
fraction_of kind mode v c = part_of (whole_of kind mode v) c

abbrev pub exact_fraction : List DemixLayer → ℕ → Coefficients → ℕ → List ℤ → Channel → Quotient
exact_fraction layers target mode w coded c = fraction_of (kinds_of layers target) mode (exact (kinds_of layers) mode w (sent_by layers coded) target) c
