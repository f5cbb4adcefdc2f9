-- What is sent, with its factors in units: it gives the same units, and 64 bits hold it where it is quiet.
use Rattle.std.proofs.Common.{arith, Bool, false, IsTrue, ◌≤ℤ◌, ◌<ℤ◌, ◌≡◌, ◌<◌, ◌≤◌, ℕ, ℤ, pos, ◌+ℤ◌, ◌*ℤ◌, ◌^◌, ◌+◌, ◌-◌, ◌*◌, List, length, All, unsigned_abs, slice_index_or, ap, refl, ◌∙◌, sym, subst}
use Rattle.std.proofs.lemmas.Int.{ints, unsigned_abs-mul}
use Rattle.std.proofs.lemmas.List.Elements.{All-get_or}
use Rattle.std.proofs.Math.Nat.{mul-le-mul}
use Rattle.std.proofs.Math.IntN.{*ℤ_comm}
use Rattle.spec_demix.specs.declared.Sent.{Sent}
use Rattle.spec_demix.specs.declared.SentSide.{SentSide}
use Rattle.spec_demix.specs.declared.SentTops.{SentTops}
use Rattle.spec_demix.specs.declared.SentBed.{SentBed}
use Rattle.spec_demix.specs.Floor.{floor_of, unit}
use Rattle.spec_demix.specs.Sent.{sample_of, side_of, tops_of, bed_of}
use Rattle.spec_demix.specs.FixedWalk.{units_of, side_units, tops_units, bed_units}
use Rattle.spec_demix.specs.Sizes.{AreSamples}
use Rattle.spec_demix.proofs.FloorLemmas.{floor-low, floor-high, distribute}
use Rattle.demix_layers.proofs.Floors.{floor_only, reassociate}
use Rattle.demix_channels.specs.Room.{IsSentWithin, AreSidesWithin, AreTopsWithin, AreWithin}
use Rattle.mix_fixed.specs.Scaled.{whole_of, rest_of, fraction_of, scaled_of, scaled_side, scaled_tops, scaled_bed, scale, units_by, side_by, tops_by, bed_by}
use Rattle.mix_fixed.specs.declared.scaled.Most.{Most}
use Rattle.mix_fixed.specs.declared.scaled.Scaled.{Scaled}
use Rattle.mix_fixed.specs.declared.scaled.ScaledSide.{ScaledSide}
use Rattle.mix_fixed.specs.declared.scaled.ScaledTops.{ScaledTops}
use Rattle.mix_fixed.specs.declared.scaled.ScaledBed.{ScaledBed}
use Rattle.mix_fixed.specs.Quiet.{AreShort, OfSides, OfTops, OfBed, IsBelow, IsQuiet}

-- ---- the same units

factor_parts : (f : ℕ) → f * 65536 ≡ whole_of f * 244140625 + rest_of f
factor_parts f = omega arith

sample_parts : (y : ℤ) (f : ℕ) → (y *ℤ pos f) *ℤ pos 65536 ≡ (y *ℤ pos (whole_of f)) *ℤ pos 244140625 +ℤ y *ℤ pos (rest_of f)
sample_parts y f =
    let a = reassociate y (pos f) (pos 65536) in
    let b = reassociate y (pos (whole_of f)) (pos 244140625) in
    let d = distribute (pos (whole_of f) *ℤ pos 244140625) (pos (rest_of f)) y in
    let e = *ℤ_comm y (pos (whole_of f * 244140625 + rest_of f)) in
    let g = *ℤ_comm y (pos (whole_of f) *ℤ pos 244140625) in
    let h = *ℤ_comm y (pos (rest_of f)) in
    let k = ap (λ n. y *ℤ pos n) (factor_parts f) in
    a ∙ k ∙ e ∙ d ∙ omega (arith, ints, b, g, h)

fraction_parts : (f : ℕ) → (d : ℕ) × (fraction_of f * 244140625 ≡ rest_of f * 2 ^ 63 + d) × (d < 244140625)
fraction_parts f = (fraction_of f * 244140625 - rest_of f * 2 ^ 63, omega arith, omega arith)

-- the fraction that is rounded up has the same floor
same_floor : (y : ℤ) (f : ℕ) → unsigned_abs y ≤ 2 ^ 31 → floor_of (y *ℤ pos (fraction_of f) +ℤ pos (2 ^ 31)) (2 ^ 63) ≡ floor_of (y *ℤ pos (rest_of f)) 244140625
same_floor y f short =
    let h = fraction_parts f in
    let d = h.0 in
    let z = y *ℤ pos (rest_of f) in
    let v = y *ℤ pos (fraction_of f) in
    let low = floor-low z 244140625 (omega arith) in
    let high = floor-high z 244140625 (omega arith) in
    let a = reassociate y (pos (fraction_of f)) (pos 244140625) in
    let k = ap (λ n. y *ℤ pos n) (h.1) in
    let e = *ℤ_comm y (pos (rest_of f * 2 ^ 63 + d)) in
    let t = distribute (pos (rest_of f) *ℤ pos (2 ^ 63)) (pos d) y in
    let g = *ℤ_comm y (pos (rest_of f) *ℤ pos (2 ^ 63)) in
    let b = reassociate y (pos (rest_of f)) (pos (2 ^ 63)) in
    let j = *ℤ_comm y (pos d) in
    let m : unsigned_abs (y *ℤ pos d) ≤ 2 ^ 31 * 244140625 = let few : d ≤ 244140625 = let l = h.2 in omega (arith, l) in let p : unsigned_abs y * d ≤ 2 ^ 31 * 244140625 = mul-le-mul short few in rw unsigned_abs-mul p in
    let parts : v *ℤ pos 244140625 ≡ z *ℤ pos (2 ^ 63) +ℤ y *ℤ pos d = a ∙ k ∙ e ∙ t ∙ omega (arith, ints, g, b, j) in
    summed (floor_of z 244140625) z v (y *ℤ pos d) low high parts m
  where
    summed : (q z v u : ℤ) → (q *ℤ pos 244140625) ≤ℤ z → z <ℤ (q *ℤ pos 244140625 +ℤ pos 244140625) → v *ℤ pos 244140625 ≡ z *ℤ pos (2 ^ 63) +ℤ u → unsigned_abs u ≤ 2 ^ 31 * 244140625
        → floor_of (v +ℤ pos (2 ^ 31)) (2 ^ 63) ≡ q
    summed q z v u low high parts m = floor_only (v +ℤ pos (2 ^ 31)) q (2 ^ 63) (omega (arith, ints, low, high, parts, m)) (omega (arith, ints, low, high, parts, m))

scale_is : (y : ℤ) (f : ℕ) → unsigned_abs y ≤ 2 ^ 31 → scale y (pos (whole_of f)) (pos (fraction_of f)) ≡ units_of (y *ℤ pos f)
scale_is y f short =
    let p = sample_parts y f in
    let z = y *ℤ pos (rest_of f) in
    let l = floor-low z 244140625 (omega arith) in
    let h = floor-high z 244140625 (omega arith) in
    rw (same_floor y f short) (sym (floor_only ((y *ℤ pos f) *ℤ pos unit) (y *ℤ pos (whole_of f) +ℤ floor_of z 244140625) 1000000000000 (omega (arith, ints)) (omega (arith, ints))))

sample_at : (coded : List ℤ) (sent : Sent) (n : ℕ) → sent.place < length coded → All (λ y. unsigned_abs y ≤ n) coded → unsigned_abs (slice_index_or coded sent.place (pos 0)) ≤ n
sample_at coded sent n place s = All-get_or (λ y. unsigned_abs y ≤ n) coded sent.place (pos 0) place s

units_same : (coded : List ℤ) (s : Sent) → unsigned_abs (slice_index_or coded s.place (pos 0)) ≤ 2 ^ 31 → units_by coded (scaled_of s) ≡ units_of (sample_of coded s)
units_same coded s short = scale_is (slice_index_or coded s.place (pos 0)) s.factor short

side_same : (exact : Bool) (coded : List ℤ) (s : SentSide) → OfSides (IsQuiet exact coded) (scaled_side s) → side_by coded (scaled_side s) ≡ side_units (side_of coded s)
side_same exact coded s q =
    rw (
      units_same coded s.two q.two.short,
      units_same coded s.three q.three.short,
      units_same coded s.five q.five.short,
      units_same coded s.surround q.surround.short,
      units_same coded s.side q.side.short,
      units_same coded s.rear q.rear.short,
    ) refl

tops_same : (exact : Bool) (coded : List ℤ) (s : SentTops) → OfTops (IsQuiet exact coded) (scaled_tops s) → tops_by coded (scaled_tops s) ≡ tops_units (tops_of coded s)
tops_same exact coded s q =
    rw (
      units_same coded s.three q.three.short,
      units_same coded s.two q.two.short,
      units_same coded s.four q.four.short,
      units_same coded s.back q.back.short,
    ) refl

all_same : (exact : Bool) (coded : List ℤ) (s : SentBed) → OfBed (IsQuiet exact coded) (scaled_bed s) → bed_by coded (scaled_bed s) ≡ bed_units (bed_of coded s)
all_same exact coded s q =
    rw (
      units_same coded s.mono q.mono.short,
      units_same coded s.center q.center.short,
      units_same coded s.low q.low.short,
      side_same exact coded s.left q.left,
      side_same exact coded s.right q.right,
      tops_same exact coded s.left_top q.left_top,
      tops_same exact coded s.right_top q.right_top,
    ) refl

pub bed_same : (exact : Bool) (coded : List ℤ) (s : SentBed) (scaled : ScaledBed) → scaled ≡ scaled_bed s → OfBed (IsQuiet exact coded) scaled → bed_by coded scaled ≡ bed_units (bed_of coded s)
bed_same exact coded s scaled e q = ap (bed_by coded) e ∙ all_same exact coded s (subst (λ (x : ScaledBed). OfBed (IsQuiet exact coded) x) e q)

-- twice as much over twice as much
pub doubled : (y r : ℤ) → floor_of ((pos 2 *ℤ y) *ℤ r +ℤ pos 4294967296) 18446744073709551616 ≡ floor_of (y *ℤ r +ℤ pos (2 ^ 31)) (2 ^ 63)
doubled y r =
    let e = reassociate (pos 2) y r in
    let z = y *ℤ r +ℤ pos (2 ^ 31) in
    let l = floor-low z (2 ^ 63) (omega arith) in
    let h = floor-high z (2 ^ 63) (omega arith) in
    floor_only ((pos 2 *ℤ y) *ℤ r +ℤ pos 4294967296) (floor_of z (2 ^ 63)) 18446744073709551616 (omega (arith, ints, e, l)) (omega (arith, ints, e, h))

pub doubled_size : (y r : ℤ) → unsigned_abs y ≤ 2 ^ 31 → unsigned_abs r ≤ 2 ^ 63 → unsigned_abs ((pos 2 *ℤ y) *ℤ r) ≤ 2 ^ 95
doubled_size y r short few =
    let t : unsigned_abs (pos 2 *ℤ y) ≤ 2 ^ 32 = omega (arith, ints, short) in
    let m : unsigned_abs (pos 2 *ℤ y) * unsigned_abs r ≤ 2 ^ 32 * 2 ^ 63 = mul-le-mul t few in
    rw unsigned_abs-mul (omega (arith, m))

pub doubled_floor : (z : ℤ) → unsigned_abs z ≤ 2 ^ 95 → unsigned_abs (floor_of (z +ℤ pos 4294967296) 18446744073709551616) ≤ 2 ^ 32
doubled_floor z m =
    let l = floor-low (z +ℤ pos 4294967296) 18446744073709551616 (omega arith) in
    let h = floor-high (z +ℤ pos 4294967296) 18446744073709551616 (omega arith) in
    omega (arith, ints, m, l, h)

-- ---- quiet channels

quiet_if : (exact : Bool) (coded : List ℤ) (sent : Sent) (a b : ℕ) → sent.place < length coded → unsigned_abs (slice_index_or coded sent.place (pos 0)) ≤ a → whole_of sent.factor ≤ b
    → a ≤ 2 ^ 31 → a * b ≤ 2 ^ 59 → (IsTrue exact → fraction_of sent.factor ≡ 0) → IsQuiet exact coded (scaled_of sent)
quiet_if exact coded sent a b place most few short w none = record {
  place = place;
  whole = let m : unsigned_abs (slice_index_or coded sent.place (pos 0)) * whole_of sent.factor ≤ a * b = mul-le-mul most few in omega (arith, m, w);
  short = omega (arith, most, short);
  no_rest = λ t. ap pos (none t);
}

sides_quiet : (exact : Bool) (coded : List ℤ) (most : Most) (sent : SentSide) → ((s : Sent) → IsBelow most (scaled_of s) → IsSentWithin (length coded) s → IsQuiet exact coded (scaled_of s))
    → OfSides (IsBelow most) (scaled_side sent) → AreSidesWithin (length coded) sent → OfSides (IsQuiet exact coded) (scaled_side sent)
sides_quiet exact coded most sent f c w = record {
  two = f sent.two c.two w.two;
  three = f sent.three c.three w.three;
  five = f sent.five c.five w.five;
  surround = f sent.surround c.surround w.surround;
  side = f sent.side c.side w.side;
  rear = f sent.rear c.rear w.rear;
}

tops_quiet : (exact : Bool) (coded : List ℤ) (most : Most) (sent : SentTops) → ((s : Sent) → IsBelow most (scaled_of s) → IsSentWithin (length coded) s → IsQuiet exact coded (scaled_of s))
    → OfTops (IsBelow most) (scaled_tops sent) → AreTopsWithin (length coded) sent → OfTops (IsQuiet exact coded) (scaled_tops sent)
tops_quiet exact coded most sent f c w = record {
  three = f sent.three c.three w.three;
  two = f sent.two c.two w.two;
  four = f sent.four c.four w.four;
  back = f sent.back c.back w.back;
}

bed_quiet : (exact : Bool) (coded : List ℤ) (most : Most) (sent : SentBed) → ((s : Sent) → IsBelow most (scaled_of s) → IsSentWithin (length coded) s → IsQuiet exact coded (scaled_of s))
    → OfBed (IsBelow most) (scaled_bed sent) → AreWithin (length coded) sent → OfBed (IsQuiet exact coded) (scaled_bed sent)
bed_quiet exact coded most sent f c w = record {
  mono = f sent.mono c.mono w.mono;
  center = f sent.center c.center w.center;
  low = f sent.low c.low w.low;
  left = sides_quiet exact coded most sent.left f c.left w.left;
  right = sides_quiet exact coded most sent.right f c.right w.right;
  left_top = tops_quiet exact coded most sent.left_top f c.left_top w.left_top;
  right_top = tops_quiet exact coded most sent.right_top f c.right_top w.right_top;
}

quiet_calm : (exact : Bool) (coded : List ℤ) (most : Most) (sent : Sent) → AreSamples coded → most.whole ≤ℤ pos (2 ^ 28) → (IsTrue exact → most.rest ≤ℤ pos 0) → IsBelow most (scaled_of sent) → IsSentWithin (length coded) sent
    → IsQuiet exact coded (scaled_of sent)
quiet_calm exact coded most sent s calm none b w =
    let few : whole_of sent.factor ≤ 2 ^ 28 = let h = b.whole in omega (arith, ints, calm, h) in
    quiet_if exact coded sent (2 ^ 31) (2 ^ 28) w.place (sample_at coded sent (2 ^ 31) w.place s) few (omega arith) (omega arith)
    (λ t. let n = none t in let h = b.rest in omega (arith, ints, n, h))

quiet_short : (coded : List ℤ) (sent : Sent) → AreShort coded → IsSentWithin (length coded) sent → IsQuiet false coded (scaled_of sent)
quiet_short coded sent s w =
    quiet_if false coded sent (2 ^ 24) (2 ^ 34) w.place (sample_at coded sent (2 ^ 24) w.place s) (let f = w.factor in omega (arith, f)) (omega arith) (omega arith) (λ t. absurd (cc))

pub calm_quiet : (exact : Bool) (coded : List ℤ) (most : Most) (sent : SentBed) → AreSamples coded → most.whole ≤ℤ pos (2 ^ 28) → (IsTrue exact → most.rest ≤ℤ pos 0) → OfBed (IsBelow most) (scaled_bed sent) → AreWithin (length coded) sent
    → OfBed (IsQuiet exact coded) (scaled_bed sent)
calm_quiet exact coded most sent s calm none = bed_quiet exact coded most sent (λ x. quiet_calm exact coded most x s calm none)

pub short_quiet : (coded : List ℤ) (most : Most) (sent : SentBed) → AreShort coded → OfBed (IsBelow most) (scaled_bed sent) → AreWithin (length coded) sent → OfBed (IsQuiet false coded) (scaled_bed sent)
short_quiet coded most sent s = bed_quiet false coded most sent (λ x b. quiet_short coded x s)

-- ---- the largest factors

pub below_more : (a b : Most) (s : Scaled) → a.whole ≤ℤ b.whole → a.rest ≤ℤ b.rest → IsBelow a s → IsBelow b s
below_more a b s w r h = let x = h.whole in let y = h.rest in record { whole = omega (arith, ints, w, x); rest = omega (arith, ints, r, y) }

pub side_more : (a b : Most) (s : ScaledSide) → a.whole ≤ℤ b.whole → a.rest ≤ℤ b.rest → OfSides (IsBelow a) s → OfSides (IsBelow b) s
side_more a b s w r h = record {
  two = below_more a b s.two w r h.two;
  three = below_more a b s.three w r h.three;
  five = below_more a b s.five w r h.five;
  surround = below_more a b s.surround w r h.surround;
  side = below_more a b s.side w r h.side;
  rear = below_more a b s.rear w r h.rear;
}

pub tops_more : (a b : Most) (s : ScaledTops) → a.whole ≤ℤ b.whole → a.rest ≤ℤ b.rest → OfTops (IsBelow a) s → OfTops (IsBelow b) s
tops_more a b s w r h = record {
  three = below_more a b s.three w r h.three;
  two = below_more a b s.two w r h.two;
  four = below_more a b s.four w r h.four;
  back = below_more a b s.back w r h.back;
}
