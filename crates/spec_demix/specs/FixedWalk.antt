-- The walk that gives the channels in whole units of 1/2^28, each division rounded down. The layers are taken in their order;
-- each adds the channels that it transmits, in units, and those that follow from them.
use Rattle.std.specs.Prelude.{ℕ, zero, suc, ◌*◌, ℤ, pos, ◌-ℤ◌, ◌*ℤ◌, if◌then◌else◌, List, map}
use Rattle.spec_gains.specs.Modes.{Coefficients}
use Rattle.spec_layouts.specs.declared.Channel.{Channel}
use Rattle.spec_demix.specs.Floor.{floor_of, unit}
use Rattle.spec_demix.specs.declared.Kind.{Kind}
use Rattle.spec_demix.specs.Kinds.{reaches, gives_three, gives_two, leaves_three, gives_four, gives_back, splits_two}
use Rattle.spec_demix.specs.declared.DemixLayer.{DemixLayer}
use Rattle.spec_demix.specs.declared.Side.{Side}
use Rattle.spec_demix.specs.declared.Tops.{Tops}
use Rattle.spec_demix.specs.declared.Bed.{Bed}
use Rattle.spec_demix.specs.Values.{value_of}
use Rattle.spec_demix.specs.Sent.{kinds_of, sent_by}
use Rattle.spec_demix.specs.Fits.{target_channels}

-- a coded sample times its gain, in parts of 10^12, in units
abbrev pub units_of : ℤ → ℤ
units_of y = floor_of (y *ℤ pos unit) 1000000000000

abbrev pub side_units : Side → Side
side_units y = record {
  two = units_of y.two;
  three = units_of y.three;
  five = units_of y.five;
  surround = units_of y.surround;
  side = units_of y.side;
  rear = units_of y.rear;
}

abbrev pub tops_units : Tops → Tops
tops_units y = record { three = units_of y.three; two = units_of y.two; four = units_of y.four; back = units_of y.back }

abbrev pub bed_units : Bed → Bed
bed_units y = record {
  mono = units_of y.mono;
  center = units_of y.center;
  low = units_of y.low;
  left = side_units y.left;
  right = side_units y.right;
  left_top = tops_units y.left_top;
  right_top = tops_units y.right_top;
}

-- left or right of stereo, where it comes
abbrev pub two_of : ℕ → ℕ → ℤ → ℤ → ℤ
two_of before now old given = if reaches 2 before now then given else old

-- left or right of 3.1.2
abbrev pub three_of : ℕ → ℕ → ℤ → ℤ → ℤ → ℤ
three_of before now old two center =
    if reaches 3 before now then two -ℤ floor_of (pos 707 *ℤ center) 1000 else old

-- the surround of 5.1
abbrev pub surround_of : ℕ → ℕ → Coefficients → ℤ → ℤ → ℤ → ℤ
surround_of before now mode old three sent =
    if reaches 5 before now then floor_of (pos 1000 *ℤ (three -ℤ sent)) mode.delta else old

-- a channel that is transmitted where the surround count comes to a number
abbrev pub sent_of : ℕ → ℕ → ℕ → ℤ → ℤ → ℤ
sent_of kind before now old sent = if reaches kind before now then sent else old

-- the rear of 7.1
abbrev pub rear_of : ℕ → ℕ → Coefficients → ℤ → ℤ → ℤ → ℤ
rear_of before now mode old surround sent =
    if reaches 7 before now
    then floor_of (pos 1000 *ℤ surround -ℤ pos mode.alpha *ℤ sent) mode.beta
    else old

-- one side after a layer, where `two` is its channel of stereo
abbrev pub side_after : ℕ → ℕ → Coefficients → ℤ → ℤ → Side → Side → Side
side_after before now mode two center old sent =
    let three = three_of before now old.three two center in
    let surround = surround_of before now mode old.surround three sent.five in
    record {
      two = two;
      three = three;
      five = sent_of 5 before now old.five sent.five;
      surround = surround;
      side = sent_of 7 before now old.side sent.side;
      rear = rear_of before now mode old.rear surround sent.side;
    }

-- the top of two, from the surround of 5.1
abbrev pub top_two_of : Kind → Kind → Coefficients → ℕ → ℤ → ℤ → ℤ → ℤ → ℤ
top_two_of before now mode w surround three old sent =
    if leaves_three before now then three -ℤ floor_of (pos (w * mode.delta) *ℤ surround) 10000000 else (if gives_two before now then sent else old)

-- the back top of four
abbrev pub top_back_of : Kind → Kind → Coefficients → ℤ → ℤ → ℤ → ℤ → ℤ
top_back_of before now mode two four old sent =
    if splits_two before now then floor_of (pos 1000 *ℤ (two -ℤ four)) mode.gamma else (if gives_back before now then sent else old)

-- one side's tops after a layer
abbrev pub tops_after : Kind → Kind → Coefficients → ℕ → ℤ → Tops → Tops → Tops
tops_after before now mode w surround old sent =
    let two = top_two_of before now mode w surround old.three old.two sent.two in
    record {
      three = if gives_three before now then sent.three else old.three;
      two = two;
      four = if gives_four before now then sent.four else old.four;
      back = top_back_of before now mode two sent.four old.back sent.back;
    }

-- all channels after a layer
abbrev pub bed_after : Kind → Kind → Coefficients → ℕ → Bed → Bed → Bed
bed_after before now mode w old sent =
    let center = sent_of 3 before.surround now.surround old.center sent.center in
    let left = side_after before.surround now.surround mode (two_of before.surround now.surround old.left.two sent.left.two) center old.left sent.left in
    let right = side_after before.surround now.surround mode (two_of before.surround now.surround old.right.two (pos 2 *ℤ old.mono -ℤ sent.left.two)) center old.right sent.right in
    record {
      mono = old.mono;
      center = center;
      low = sent_of 3 before.surround now.surround old.low sent.low;
      left = left;
      right = right;
      left_top = tops_after before now mode w left.surround old.left_top sent.left_top;
      right_top = tops_after before now mode w right.surround old.right_top sent.right_top;
    }

-- all channels after layer j
abbrev pub fixed : (ℕ → Kind) → Coefficients → ℕ → (ℕ → Bed) → ℕ → Bed
fixed kind mode w y zero = bed_units (y 0)
fixed kind mode w y (suc j) = bed_after (kind j) (kind (suc j)) mode w (fixed kind mode w y j) (bed_units (y (suc j)))

-- a channel of the target, in units
abbrev pub fixed_value : List DemixLayer → ℕ → Coefficients → ℕ → List ℤ → Channel → ℤ
fixed_value layers target mode w coded c = value_of (kinds_of layers target) (fixed (kinds_of layers) mode w (sent_by layers coded) target) c

-- the channels of the target in the order of a WAV file, in units
abbrev pub fixed_row : List DemixLayer → ℕ → Coefficients → ℕ → List ℤ → List ℤ
fixed_row layers target mode w coded = map (fixed_value layers target mode w coded) (target_channels layers target)
