-- Where each channel comes from, through all the layers of an element, and the channels that this gives in one go. It is what the
-- private functions work by; the walk that is meant is `fixed` of spec_demix.
use Rattle.std.specs.Prelude.{ℕ, zero, suc, ◌*◌, ℤ, pos, ◌-ℤ◌, ◌*ℤ◌, if◌then◌else◌, List, false, ◌||◌}
use Rattle.spec_gains.specs.Modes.{Coefficients}
use Rattle.spec_demix.specs.Floor.{floor_of}
use Rattle.spec_demix.specs.declared.Kind.{Kind}
use Rattle.spec_demix.specs.Kinds.{reaches, gives_three, gives_two, leaves_three, gives_four, gives_back, splits_two}
use Rattle.spec_demix.specs.declared.DemixLayer.{DemixLayer}
use Rattle.spec_demix.specs.declared.Side.{Side}
use Rattle.spec_demix.specs.declared.Tops.{Tops}
use Rattle.spec_demix.specs.declared.Bed.{Bed}
use Rattle.spec_demix.specs.declared.SentSide.{SentSide}
use Rattle.spec_demix.specs.declared.SentTops.{SentTops}
use Rattle.spec_demix.specs.declared.SentBed.{SentBed}
use Rattle.spec_demix.specs.FixedWalk.{bed_units}
use Rattle.spec_demix.specs.Sent.{first_sent, sent_at, kinds_of, layer_at, bed_of}
use Rattle.mix_fixed.specs.declared.origins.Origins.{Origins}

-- ---- the origins

abbrev pub first_origins : DemixLayer → Origins
first_origins layer = record { sent = first_sent layer; right = false; three = false; surround = false; rear = false; top = false; back = false }

abbrev pub side_origins : ℕ → ℕ → SentSide → SentSide → SentSide
side_origins before now old next = record {
  two = if reaches 2 before now then next.two else old.two;
  three = old.three;
  five = if reaches 5 before now then next.five else old.five;
  surround = old.surround;
  side = if reaches 7 before now then next.side else old.side;
  rear = old.rear;
}

abbrev pub tops_origins : Kind → Kind → SentTops → SentTops → SentTops
tops_origins before now old next = record {
  three = if gives_three before now then next.three else old.three;
  two = if gives_two before now then next.two else old.two;
  four = if gives_four before now then next.four else old.four;
  back = if gives_back before now then next.back else old.back;
}

abbrev pub sent_origins : Kind → Kind → SentBed → SentBed → SentBed
sent_origins before now old next = record {
  mono = old.mono;
  center = if reaches 3 before.surround now.surround then next.center else old.center;
  low = if reaches 3 before.surround now.surround then next.low else old.low;
  left = side_origins before.surround now.surround old.left next.left;
  right = side_origins before.surround now.surround old.right next.right;
  left_top = tops_origins before now old.left_top next.left_top;
  right_top = tops_origins before now old.right_top next.right_top;
}

-- those after one layer more, which transmits `next`
abbrev pub origins_after : Kind → Kind → Origins → SentBed → Origins
origins_after before now old next = record {
  sent = sent_origins before now old.sent next;
  right = reaches 2 before.surround now.surround || old.right;
  three = reaches 3 before.surround now.surround || old.three;
  surround = reaches 5 before.surround now.surround || old.surround;
  rear = reaches 7 before.surround now.surround || old.rear;
  top = leaves_three before now || old.top;
  back = splits_two before now || old.back;
}

-- those after layer j
abbrev pub origins_of : List DemixLayer → ℕ → Origins
origins_of layers zero = first_origins (layer_at layers 0)
origins_of layers (suc j) = origins_after (kinds_of layers j) (kinds_of layers (suc j)) (origins_of layers j) (sent_at layers (suc j))

-- ---- the channels, from those that are sent

-- one side, where `two` is its channel of stereo and `share` the center's part of it
abbrev pub side_from : Origins → Coefficients → ℤ → ℤ → Side → Side
side_from origins mode two share sent =
    let three = if origins.three then two -ℤ share else sent.three in
    let surround = if origins.surround then floor_of (pos 1000 *ℤ (three -ℤ sent.five)) mode.delta else sent.surround in
    record {
      two = two;
      three = three;
      five = sent.five;
      surround = surround;
      side = sent.side;
      rear = if origins.rear then floor_of (pos 1000 *ℤ surround -ℤ pos mode.alpha *ℤ sent.side) mode.beta else sent.rear;
    }

-- one side's tops, with the surround of 5.1
abbrev pub tops_from : Origins → Coefficients → ℕ → ℤ → Tops → Tops
tops_from origins mode w surround sent =
    let two = if origins.top then sent.three -ℤ floor_of (pos (w * mode.delta) *ℤ surround) 10000000 else sent.two in
    record {
      three = sent.three;
      two = two;
      four = sent.four;
      back = if origins.back then floor_of (pos 1000 *ℤ (two -ℤ sent.four)) mode.gamma else sent.back;
    }

abbrev pub all_from : Origins → Coefficients → ℕ → Bed → Bed
all_from origins mode w sent =
    let share = floor_of (pos 707 *ℤ sent.center) 1000 in
    let left = side_from origins mode sent.left.two share sent.left in
    let right = side_from origins mode (if origins.right then pos 2 *ℤ sent.mono -ℤ sent.left.two else sent.right.two) share sent.right in
    record {
      mono = sent.mono;
      center = sent.center;
      low = sent.low;
      left = left;
      right = right;
      left_top = tops_from origins mode w left.surround sent.left_top;
      right_top = tops_from origins mode w right.surround sent.right_top;
    }

-- all channels from the coded samples
abbrev pub bed_from : Origins → Coefficients → ℕ → List ℤ → Bed
bed_from origins mode w coded = all_from origins mode w (bed_units (bed_of coded origins.sent))
