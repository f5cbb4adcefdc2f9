-- What is sent, with its factors in units of 1/2^28, where 2^28 / 10^12 is 2^16 / 5^12; and what that gives of the coded samples.
use Rattle.std.specs.Prelude.{ℕ, ◌+◌, ◌*◌, ◌/◌, ◌%◌, ◌^◌, List, ℤ, pos, ◌+ℤ◌, ◌*ℤ◌, slice_index_or}
use Rattle.spec_demix.specs.Floor.{floor_of}
use Rattle.spec_demix.specs.declared.Side.{Side}
use Rattle.spec_demix.specs.declared.Tops.{Tops}
use Rattle.spec_demix.specs.declared.Bed.{Bed}
use Rattle.spec_demix.specs.declared.Sent.{Sent}
use Rattle.spec_demix.specs.declared.SentSide.{SentSide}
use Rattle.spec_demix.specs.declared.SentTops.{SentTops}
use Rattle.spec_demix.specs.declared.SentBed.{SentBed}
use Rattle.mix_fixed.specs.declared.scaled.Scaled.{Scaled}
use Rattle.mix_fixed.specs.declared.scaled.ScaledSide.{ScaledSide}
use Rattle.mix_fixed.specs.declared.scaled.ScaledTops.{ScaledTops}
use Rattle.mix_fixed.specs.declared.scaled.ScaledBed.{ScaledBed}

abbrev pub whole_of : ℕ → ℕ
whole_of factor = factor / 244140625 * 65536 + factor % 244140625 * 65536 / 244140625

abbrev pub rest_of : ℕ → ℕ
rest_of factor = factor % 244140625 * 65536 % 244140625

-- the same in parts of a unit over 2^63, rounded up
abbrev pub fraction_of : ℕ → ℕ
fraction_of factor = (rest_of factor * 2 ^ 63 + 244140624) / 244140625

abbrev pub scaled_of : Sent → Scaled
scaled_of sent = record { place = sent.place; whole = pos (whole_of sent.factor); rest = pos (fraction_of sent.factor) }

abbrev pub scaled_side : SentSide → ScaledSide
scaled_side sent = record {
  two = scaled_of sent.two;
  three = scaled_of sent.three;
  five = scaled_of sent.five;
  surround = scaled_of sent.surround;
  side = scaled_of sent.side;
  rear = scaled_of sent.rear;
}

abbrev pub scaled_tops : SentTops → ScaledTops
scaled_tops sent = record { three = scaled_of sent.three; two = scaled_of sent.two; four = scaled_of sent.four; back = scaled_of sent.back }

abbrev pub scaled_bed : SentBed → ScaledBed
scaled_bed sent = record {
  mono = scaled_of sent.mono;
  center = scaled_of sent.center;
  low = scaled_of sent.low;
  left = scaled_side sent.left;
  right = scaled_side sent.right;
  left_top = scaled_tops sent.left_top;
  right_top = scaled_tops sent.right_top;
}

-- ---- the channels in units

-- the floor of what the factor gives: for samples of 32 bits 2^31 makes up for the rounding
abbrev pub scale : ℤ → ℤ → ℤ → ℤ
scale y whole rest = y *ℤ whole +ℤ floor_of (y *ℤ rest +ℤ pos (2 ^ 31)) (2 ^ 63)

abbrev pub units_by : List ℤ → Scaled → ℤ
units_by coded s = scale (slice_index_or coded s.place (pos 0)) s.whole s.rest

abbrev pub side_by : List ℤ → ScaledSide → Side
side_by coded s = record {
  two = units_by coded s.two;
  three = units_by coded s.three;
  five = units_by coded s.five;
  surround = units_by coded s.surround;
  side = units_by coded s.side;
  rear = units_by coded s.rear;
}

abbrev pub tops_by : List ℤ → ScaledTops → Tops
tops_by coded s = record { three = units_by coded s.three; two = units_by coded s.two; four = units_by coded s.four; back = units_by coded s.back }

abbrev pub bed_by : List ℤ → ScaledBed → Bed
bed_by coded s = record {
  mono = units_by coded s.mono;
  center = units_by coded s.center;
  low = units_by coded s.low;
  left = side_by coded s.left;
  right = side_by coded s.right;
  left_top = tops_by coded s.left_top;
  right_top = tops_by coded s.right_top;
}
