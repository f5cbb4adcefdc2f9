-- What a first layer carries says the same by the list of what it transmits and by kinds of channels: it transmits all that it has.
use Rattle.std.proofs.Common.{arith, ◌≡◌, ◌≢◌, ◌≤◌, ◌<◌, ℕ, ℤ, pos, ◌*ℤ◌, refl, List}
use Rattle.std.proofs.lemmas.Int.{ints}
use Rattle.spec_layouts.specs.declared.Layout.{Layout}
use Rattle.spec_layouts.specs.declared.Layout.TheVariants.{Mono, Stereo, L51, L512, L514, L71, L712, L714, L312, Binaural}
use Rattle.spec_layouts.specs.Transmitted.{first_pairs, first_singles}
use Rattle.spec_demix.specs.declared.DemixLayer.{DemixLayer}
use Rattle.spec_demix.specs.declared.Bed.{Bed}
use Rattle.spec_demix.specs.declared.Kind.{Kind}
use Rattle.spec_demix.specs.declared.Side.{Side}
use Rattle.spec_demix.specs.declared.Tops.{Tops}
use Rattle.spec_demix.specs.Kinds.{kind_of}
use Rattle.spec_demix.specs.Fits.{FirstCarries}
use Rattle.spec_demix.specs.Sent.{bed_of, first_sent}
use Rattle.spec_demix.proofs.KindFits.{CarriesFirstSide, CarriesFirstTops, FirstCarriesAs}
use Rattle.spec_demix.proofs.CarriedRows.{less, more}

abbrev pub layer_with : Layout → ℕ → ℕ → DemixLayer
layer_with layout flags factor = record { layout = layout; flags = flags; factor = factor }

less_mono : (bottom : ℕ) (v y : ℤ) → pos 1000000000000 *ℤ v ≡ pos 20000000000 *ℤ (y *ℤ pos bottom) → pos 100 *ℤ v ≡ pos 2 *ℤ (y *ℤ pos bottom)
less_mono bottom v y e = omega (arith, ints)

more_mono : (bottom : ℕ) (v y : ℤ) → pos 100 *ℤ v ≡ pos 2 *ℤ (y *ℤ pos bottom) → pos 1000000000000 *ℤ v ≡ pos 20000000000 *ℤ (y *ℤ pos bottom)
more_mono bottom v y e = omega (arith, ints)

-- a channel carries a sample times its gain, as the lists say it
abbrev Sends : ℕ → ℤ → ℤ → Type 0
Sends bottom v y = pos 1000000000000 *ℤ v ≡ pos 10000000000 *ℤ (y *ℤ pos bottom)

-- one side of each count of surround channels
side_none : (kind bottom : ℕ) (w y : Side) → kind < 2 → CarriesFirstSide kind bottom w y
side_none kind bottom w y h = record { two = λ a b. absurd (omega arith); three = λ a b. absurd (omega arith); five = λ a. absurd (omega arith); surround = λ a b. absurd (omega arith); side = λ a. absurd (omega arith); rear = λ a. absurd (omega arith) }

side_two : (bottom : ℕ) (w y : Side) → Sends bottom w.two y.two → CarriesFirstSide 2 bottom w y
side_two bottom w y h = record { two = λ a b. less bottom w.two y.two h; three = λ a b. absurd (omega arith); five = λ a. absurd (omega arith); surround = λ a b. absurd (omega arith); side = λ a. absurd (omega arith); rear = λ a. absurd (omega arith) }

side_three : (bottom : ℕ) (w y : Side) → Sends bottom w.three y.three → CarriesFirstSide 3 bottom w y
side_three bottom w y h = record { two = λ a b. absurd (omega arith); three = λ a b. less bottom w.three y.three h; five = λ a. absurd (omega arith); surround = λ a b. absurd (omega arith); side = λ a. absurd (omega arith); rear = λ a. absurd (omega arith) }

side_five : (bottom : ℕ) (w y : Side) → Sends bottom w.five y.five → Sends bottom w.surround y.surround → CarriesFirstSide 5 bottom w y
side_five bottom w y h g = record { two = λ a b. absurd (omega arith); three = λ a b. absurd (omega arith); five = λ a. less bottom w.five y.five h; surround = λ a b. less bottom w.surround y.surround g; side = λ a. absurd (omega arith); rear = λ a. absurd (omega arith) }

side_seven : (bottom : ℕ) (w y : Side) → Sends bottom w.five y.five → Sends bottom w.side y.side → Sends bottom w.rear y.rear → CarriesFirstSide 7 bottom w y
side_seven bottom w y h g k = record { two = λ a b. absurd (omega arith); three = λ a b. absurd (omega arith); five = λ a. less bottom w.five y.five h; surround = λ a b. absurd (omega arith); side = λ a. less bottom w.side y.side g; rear = λ a. less bottom w.rear y.rear k }

-- the tops of one side
tops_none : (kind : Kind) (bottom : ℕ) (w y : Tops) → kind.height ≡ 0 → CarriesFirstTops kind bottom w y
tops_none kind bottom w y e = record { three = λ a b. absurd (omega arith); two = λ a b c. absurd (omega arith); four = λ a. absurd (omega arith); back = λ a. absurd (omega arith) }

tops_three : (kind : Kind) (bottom : ℕ) (w y : Tops) → kind.height ≡ 2 → kind.surround ≡ 3 → Sends bottom w.three y.three → CarriesFirstTops kind bottom w y
tops_three kind bottom w y e s h = record { three = λ a b. less bottom w.three y.three h; two = λ a b c. absurd (omega arith); four = λ a. absurd (omega arith); back = λ a. absurd (omega arith) }

tops_two : (kind : Kind) (bottom : ℕ) (w y : Tops) → kind.height ≡ 2 → 5 ≤ kind.surround → Sends bottom w.two y.two → CarriesFirstTops kind bottom w y
tops_two kind bottom w y e s h = record { three = λ a b. absurd (omega arith); two = λ a b c. less bottom w.two y.two h; four = λ a. absurd (omega arith); back = λ a. absurd (omega arith) }

tops_four : (kind : Kind) (bottom : ℕ) (w y : Tops) → kind.height ≡ 4 → 5 ≤ kind.surround → Sends bottom w.four y.four → Sends bottom w.back y.back → CarriesFirstTops kind bottom w y
tops_four kind bottom w y e s h g = record { three = λ a b. absurd (omega arith); two = λ a b c. absurd (omega arith); four = λ a. less bottom w.four y.four h; back = λ a. less bottom w.back y.back g }

pub first_by_kinds : (layout : Layout) (flags factor bottom : ℕ) (coded : List ℤ) (v : Bed) → layout ≢ Binaural → FirstCarries (layer_with layout flags factor) bottom coded v
    → FirstCarriesAs (kind_of layout) bottom v (bed_of coded (first_sent (layer_with layout flags factor)))
unfolding first_pairs first_singles
first_by_kinds Mono flags factor bottom coded v n e = let y = bed_of coded (first_sent (layer_with Mono flags factor)) in record {
  mono = λ a. less_mono bottom v.mono y.mono e.0;
  center = λ a. absurd (omega arith);
  low = λ a. absurd (omega arith);
  left = side_none 1 bottom v.left y.left (omega arith);
  right = side_none 1 bottom v.right y.right (omega arith);
  left_top = tops_none (kind_of Mono) bottom v.left_top y.left_top refl;
  right_top = tops_none (kind_of Mono) bottom v.right_top y.right_top refl;
}
first_by_kinds Stereo flags factor bottom coded v n e = let y = bed_of coded (first_sent (layer_with Stereo flags factor)) in record {
  mono = λ a. absurd (omega arith);
  center = λ a. absurd (omega arith);
  low = λ a. absurd (omega arith);
  left = side_two bottom v.left y.left e.0;
  right = side_two bottom v.right y.right e.1.0;
  left_top = tops_none (kind_of Stereo) bottom v.left_top y.left_top refl;
  right_top = tops_none (kind_of Stereo) bottom v.right_top y.right_top refl;
}
first_by_kinds L51 flags factor bottom coded v n e = let y = bed_of coded (first_sent (layer_with L51 flags factor)) in record {
  mono = λ a. absurd (omega arith);
  center = λ a. less bottom v.center y.center e.1.1.1.1.0;
  low = λ a. less bottom v.low y.low e.1.1.1.1.1.0;
  left = side_five bottom v.left y.left e.0 e.1.1.0;
  right = side_five bottom v.right y.right e.1.0 e.1.1.1.0;
  left_top = tops_none (kind_of L51) bottom v.left_top y.left_top refl;
  right_top = tops_none (kind_of L51) bottom v.right_top y.right_top refl;
}
first_by_kinds L512 flags factor bottom coded v n e = let y = bed_of coded (first_sent (layer_with L512 flags factor)) in record {
  mono = λ a. absurd (omega arith);
  center = λ a. less bottom v.center y.center e.1.1.1.1.1.1.0;
  low = λ a. less bottom v.low y.low e.1.1.1.1.1.1.1.0;
  left = side_five bottom v.left y.left e.0 e.1.1.0;
  right = side_five bottom v.right y.right e.1.0 e.1.1.1.0;
  left_top = tops_two (kind_of L512) bottom v.left_top y.left_top refl (omega arith) e.1.1.1.1.0;
  right_top = tops_two (kind_of L512) bottom v.right_top y.right_top refl (omega arith) e.1.1.1.1.1.0;
}
first_by_kinds L514 flags factor bottom coded v n e = let y = bed_of coded (first_sent (layer_with L514 flags factor)) in record {
  mono = λ a. absurd (omega arith);
  center = λ a. less bottom v.center y.center e.1.1.1.1.1.1.1.1.0;
  low = λ a. less bottom v.low y.low e.1.1.1.1.1.1.1.1.1.0;
  left = side_five bottom v.left y.left e.0 e.1.1.0;
  right = side_five bottom v.right y.right e.1.0 e.1.1.1.0;
  left_top = tops_four (kind_of L514) bottom v.left_top y.left_top refl (omega arith) e.1.1.1.1.0 e.1.1.1.1.1.1.0;
  right_top = tops_four (kind_of L514) bottom v.right_top y.right_top refl (omega arith) e.1.1.1.1.1.0 e.1.1.1.1.1.1.1.0;
}
first_by_kinds L71 flags factor bottom coded v n e = let y = bed_of coded (first_sent (layer_with L71 flags factor)) in record {
  mono = λ a. absurd (omega arith);
  center = λ a. less bottom v.center y.center e.1.1.1.1.1.1.0;
  low = λ a. less bottom v.low y.low e.1.1.1.1.1.1.1.0;
  left = side_seven bottom v.left y.left e.0 e.1.1.0 e.1.1.1.1.0;
  right = side_seven bottom v.right y.right e.1.0 e.1.1.1.0 e.1.1.1.1.1.0;
  left_top = tops_none (kind_of L71) bottom v.left_top y.left_top refl;
  right_top = tops_none (kind_of L71) bottom v.right_top y.right_top refl;
}
first_by_kinds L712 flags factor bottom coded v n e = let y = bed_of coded (first_sent (layer_with L712 flags factor)) in record {
  mono = λ a. absurd (omega arith);
  center = λ a. less bottom v.center y.center e.1.1.1.1.1.1.1.1.0;
  low = λ a. less bottom v.low y.low e.1.1.1.1.1.1.1.1.1.0;
  left = side_seven bottom v.left y.left e.0 e.1.1.0 e.1.1.1.1.0;
  right = side_seven bottom v.right y.right e.1.0 e.1.1.1.0 e.1.1.1.1.1.0;
  left_top = tops_two (kind_of L712) bottom v.left_top y.left_top refl (omega arith) e.1.1.1.1.1.1.0;
  right_top = tops_two (kind_of L712) bottom v.right_top y.right_top refl (omega arith) e.1.1.1.1.1.1.1.0;
}
first_by_kinds L714 flags factor bottom coded v n e = let y = bed_of coded (first_sent (layer_with L714 flags factor)) in record {
  mono = λ a. absurd (omega arith);
  center = λ a. less bottom v.center y.center e.1.1.1.1.1.1.1.1.1.1.0;
  low = λ a. less bottom v.low y.low e.1.1.1.1.1.1.1.1.1.1.1.0;
  left = side_seven bottom v.left y.left e.0 e.1.1.0 e.1.1.1.1.0;
  right = side_seven bottom v.right y.right e.1.0 e.1.1.1.0 e.1.1.1.1.1.0;
  left_top = tops_four (kind_of L714) bottom v.left_top y.left_top refl (omega arith) e.1.1.1.1.1.1.0 e.1.1.1.1.1.1.1.1.0;
  right_top = tops_four (kind_of L714) bottom v.right_top y.right_top refl (omega arith) e.1.1.1.1.1.1.1.0 e.1.1.1.1.1.1.1.1.1.0;
}
first_by_kinds L312 flags factor bottom coded v n e = let y = bed_of coded (first_sent (layer_with L312 flags factor)) in record {
  mono = λ a. absurd (omega arith);
  center = λ a. less bottom v.center y.center e.1.1.1.1.0;
  low = λ a. less bottom v.low y.low e.1.1.1.1.1.0;
  left = side_three bottom v.left y.left e.0;
  right = side_three bottom v.right y.right e.1.0;
  left_top = tops_three (kind_of L312) bottom v.left_top y.left_top refl refl e.1.1.0;
  right_top = tops_three (kind_of L312) bottom v.right_top y.right_top refl refl e.1.1.1.0;
}
first_by_kinds Binaural flags factor bottom coded v n e = absurd (n refl)

pub first_by_lists : (layout : Layout) (flags factor bottom : ℕ) (coded : List ℤ) (v : Bed) → layout ≢ Binaural → FirstCarriesAs (kind_of layout) bottom v (bed_of coded (first_sent (layer_with layout flags factor)))
    → FirstCarries (layer_with layout flags factor) bottom coded v
unfolding first_pairs first_singles
first_by_lists Mono flags factor bottom coded v n e = let y = bed_of coded (first_sent (layer_with Mono flags factor)) in (more_mono bottom v.mono y.mono (e.mono (omega arith)), tt)
first_by_lists Stereo flags factor bottom coded v n e = let y = bed_of coded (first_sent (layer_with Stereo flags factor)) in (more bottom v.left.two y.left.two (e.left.two (omega arith) (omega arith)), (more bottom v.right.two y.right.two (e.right.two (omega arith) (omega arith)), tt))
first_by_lists L51 flags factor bottom coded v n e = let y = bed_of coded (first_sent (layer_with L51 flags factor)) in (more bottom v.left.five y.left.five (e.left.five (omega arith)), (more bottom v.right.five y.right.five (e.right.five (omega arith)), (more bottom v.left.surround y.left.surround (e.left.surround (omega arith) (omega arith)), (more bottom v.right.surround y.right.surround (e.right.surround (omega arith) (omega arith)), (more bottom v.center y.center (e.center (omega arith)), (more bottom v.low y.low (e.low (omega arith)), tt))))))
first_by_lists L512 flags factor bottom coded v n e = let y = bed_of coded (first_sent (layer_with L512 flags factor)) in (more bottom v.left.five y.left.five (e.left.five (omega arith)), (more bottom v.right.five y.right.five (e.right.five (omega arith)), (more bottom v.left.surround y.left.surround (e.left.surround (omega arith) (omega arith)), (more bottom v.right.surround y.right.surround (e.right.surround (omega arith) (omega arith)), (more bottom v.left_top.two y.left_top.two (e.left_top.two (omega arith) (omega arith) (omega arith)), (more bottom v.right_top.two y.right_top.two (e.right_top.two (omega arith) (omega arith) (omega arith)), (more bottom v.center y.center (e.center (omega arith)), (more bottom v.low y.low (e.low (omega arith)), tt))))))))
first_by_lists L514 flags factor bottom coded v n e = let y = bed_of coded (first_sent (layer_with L514 flags factor)) in (more bottom v.left.five y.left.five (e.left.five (omega arith)), (more bottom v.right.five y.right.five (e.right.five (omega arith)), (more bottom v.left.surround y.left.surround (e.left.surround (omega arith) (omega arith)), (more bottom v.right.surround y.right.surround (e.right.surround (omega arith) (omega arith)), (more bottom v.left_top.four y.left_top.four (e.left_top.four (omega arith)), (more bottom v.right_top.four y.right_top.four (e.right_top.four (omega arith)), (more bottom v.left_top.back y.left_top.back (e.left_top.back (omega arith)), (more bottom v.right_top.back y.right_top.back (e.right_top.back (omega arith)), (more bottom v.center y.center (e.center (omega arith)), (more bottom v.low y.low (e.low (omega arith)), tt))))))))))
first_by_lists L71 flags factor bottom coded v n e = let y = bed_of coded (first_sent (layer_with L71 flags factor)) in (more bottom v.left.five y.left.five (e.left.five (omega arith)), (more bottom v.right.five y.right.five (e.right.five (omega arith)), (more bottom v.left.side y.left.side (e.left.side (omega arith)), (more bottom v.right.side y.right.side (e.right.side (omega arith)), (more bottom v.left.rear y.left.rear (e.left.rear (omega arith)), (more bottom v.right.rear y.right.rear (e.right.rear (omega arith)), (more bottom v.center y.center (e.center (omega arith)), (more bottom v.low y.low (e.low (omega arith)), tt))))))))
first_by_lists L712 flags factor bottom coded v n e = let y = bed_of coded (first_sent (layer_with L712 flags factor)) in (more bottom v.left.five y.left.five (e.left.five (omega arith)), (more bottom v.right.five y.right.five (e.right.five (omega arith)), (more bottom v.left.side y.left.side (e.left.side (omega arith)), (more bottom v.right.side y.right.side (e.right.side (omega arith)), (more bottom v.left.rear y.left.rear (e.left.rear (omega arith)), (more bottom v.right.rear y.right.rear (e.right.rear (omega arith)), (more bottom v.left_top.two y.left_top.two (e.left_top.two (omega arith) (omega arith) (omega arith)), (more bottom v.right_top.two y.right_top.two (e.right_top.two (omega arith) (omega arith) (omega arith)), (more bottom v.center y.center (e.center (omega arith)), (more bottom v.low y.low (e.low (omega arith)), tt))))))))))
first_by_lists L714 flags factor bottom coded v n e = let y = bed_of coded (first_sent (layer_with L714 flags factor)) in (more bottom v.left.five y.left.five (e.left.five (omega arith)), (more bottom v.right.five y.right.five (e.right.five (omega arith)), (more bottom v.left.side y.left.side (e.left.side (omega arith)), (more bottom v.right.side y.right.side (e.right.side (omega arith)), (more bottom v.left.rear y.left.rear (e.left.rear (omega arith)), (more bottom v.right.rear y.right.rear (e.right.rear (omega arith)), (more bottom v.left_top.four y.left_top.four (e.left_top.four (omega arith)), (more bottom v.right_top.four y.right_top.four (e.right_top.four (omega arith)), (more bottom v.left_top.back y.left_top.back (e.left_top.back (omega arith)), (more bottom v.right_top.back y.right_top.back (e.right_top.back (omega arith)), (more bottom v.center y.center (e.center (omega arith)), (more bottom v.low y.low (e.low (omega arith)), tt))))))))))))
first_by_lists L312 flags factor bottom coded v n e = let y = bed_of coded (first_sent (layer_with L312 flags factor)) in (more bottom v.left.three y.left.three (e.left.three (omega arith) (omega arith)), (more bottom v.right.three y.right.three (e.right.three (omega arith) (omega arith)), (more bottom v.left_top.three y.left_top.three (e.left_top.three (omega arith) (omega arith)), (more bottom v.right_top.three y.right_top.three (e.right_top.three (omega arith) (omega arith)), (more bottom v.center y.center (e.center (omega arith)), (more bottom v.low y.low (e.low (omega arith)), tt))))))
first_by_lists Binaural flags factor bottom coded v n e = absurd (n refl)
