use Rattle.std.proofs.Common.{arith, ◌≡◌, ◌≤◌, ℕ, suc, ℤ, pos, ◌+ℤ◌, ◌-ℤ◌, ◌*ℤ◌, ◌*◌, refl}
use Rattle.std.proofs.lemmas.Int.{ints}
use Rattle.spec_demix.proofs.Agreement.{joined_below, tops_joined_below, mono_down, rises_up}
use Rattle.spec_demix.proofs.Errors.{chain_held}
use Rattle.spec_demix.proofs.FloorLemmas.{distribute_minus, swapped, swapped_left, floor_near, reached, not_reached, factors_swapped}
use Rattle.spec_demix.proofs.Joined.{side_down_joined, tops_down_joined}
use Rattle.spec_demix.proofs.Joins.{IsJoined, IsTopJoined}
use Rattle.spec_demix.proofs.KindFits.{CarriesAs, CarriesFirstSide, CarriesFirstTops, CarriesNextTops, FitsKinds, IsChain}
use Rattle.spec_demix.proofs.Near.{Near, IsHeld, IsTopHeld, IsBedHeld}
use Rattle.spec_demix.proofs.WalkLemmas.{errors, top_errors, IsTopSent, side_after_step, tops_after_step}
use Rattle.spec_demix.specs.Downmix.{Channels, down, back_of}
use Rattle.spec_demix.specs.FixedWalk.{fixed, units_of, side_units, tops_units, bed_units, two_of, sent_of, bed_after}
use Rattle.spec_demix.specs.Floor.{unit}
use Rattle.spec_demix.specs.declared.Bed.{Bed}
use Rattle.spec_demix.specs.declared.Kind.{Kind}
use Rattle.spec_demix.specs.declared.Side.{Side}
use Rattle.spec_demix.specs.declared.Tops.{Tops}
use Rattle.spec_gains.proofs.ModeLemmas.{Row, gamma_of, delta_of, Zero, One, Two, of}

-- the exact values in units of 1/2^28
abbrev pub unit_side : Side → Side
unit_side v = record {
  two = pos unit *ℤ v.two;
  three = pos unit *ℤ v.three;
  five = pos unit *ℤ v.five;
  surround = pos unit *ℤ v.surround;
  side = pos unit *ℤ v.side;
  rear = pos unit *ℤ v.rear;
}

abbrev pub unit_tops : Tops → Tops
unit_tops v = record { three = pos unit *ℤ v.three; two = pos unit *ℤ v.two; four = pos unit *ℤ v.four; back = pos unit *ℤ v.back }

abbrev pub bed_errors : ℕ → Bed → Bed → Bed
bed_errors b f v = record {
  mono = pos 2 *ℤ (f.mono *ℤ pos b) -ℤ pos unit *ℤ v.mono;
  center = f.center *ℤ pos b -ℤ pos unit *ℤ v.center;
  low = f.low *ℤ pos b -ℤ pos unit *ℤ v.low;
  left = errors b f.left (unit_side v.left);
  right = errors b f.right (unit_side v.right);
  left_top = top_errors b f.left_top (unit_tops v.left_top);
  right_top = top_errors b f.right_top (unit_tops v.right_top);
}

unit_three : (k : ℕ) (three two ls : ℤ) → pos 10000000 *ℤ three ≡ pos 10000000 *ℤ two +ℤ pos k *ℤ ls
    → pos 10000000 *ℤ (pos unit *ℤ three) ≡ pos 10000000 *ℤ (pos unit *ℤ two) +ℤ pos k *ℤ (pos unit *ℤ ls)
unit_three k three two ls e = let f = factors_swapped k unit ls in omega (arith, ints)

unit_two : (k : ℕ) (two four back : ℤ) → pos 1000 *ℤ two ≡ pos 1000 *ℤ four +ℤ pos k *ℤ back → pos 1000 *ℤ (pos unit *ℤ two) ≡ pos 1000 *ℤ (pos unit *ℤ four) +ℤ pos k *ℤ (pos unit *ℤ back)
unit_two k two four back e = let f = factors_swapped k unit back in omega (arith, ints)

unit_tops_joined : (kind : Kind) (mode : Row) (w : ℕ) (ls : ℤ) (v : Tops) → IsTopJoined kind mode w ls v → IsTopJoined kind mode w (pos unit *ℤ ls) (unit_tops v)
unit_tops_joined kind mode w ls v j = record {
  three = λ h. unit_three (w * delta_of mode) v.three v.two ls (j.three h);
  two = λ h. unit_two (gamma_of mode) v.two v.four v.back (j.two h);
}

unit_joined : (kind : ℕ) (mode : Row) (c : ℤ) (v : Side) → IsJoined kind mode c v → IsJoined kind mode (pos unit *ℤ c) (unit_side v)
unit_joined kind Zero c v j = record {
  two = λ h. let e = j.two h in omega (arith, ints);
  three = λ h. let e = j.three h in omega (arith, ints);
  surround = λ h. let e = j.surround h in omega (arith, ints);
}
unit_joined kind One c v j = record {
  two = λ h. let e = j.two h in omega (arith, ints);
  three = λ h. let e = j.three h in omega (arith, ints);
  surround = λ h. let e = j.surround h in omega (arith, ints);
}
unit_joined kind Two c v j = record {
  two = λ h. let e = j.two h in omega (arith, ints);
  three = λ h. let e = j.three h in omega (arith, ints);
  surround = λ h. let e = j.surround h in omega (arith, ints);
}

-- a carried sample is within one unit
sent_near : (bottom : ℕ) (v y : ℤ) → CarriesAs bottom v y → Near 1 (10000000000 * bottom) (units_of y *ℤ pos (10000000000 * bottom) -ℤ pos unit *ℤ v)
sent_near bottom v y c =
    let n = floor_near (y *ℤ pos unit) 1000000000000 bottom (omega arith) in
    let s = swapped y unit bottom in
    let t : units_of y *ℤ pos (10000000000 * bottom) ≡ pos 10000000000 *ℤ (units_of y *ℤ pos bottom) = omega (arith, ints) in
    omega (arith, ints)

mono_near : (bottom : ℕ) (v y : ℤ) → pos 100 *ℤ v ≡ pos 2 *ℤ (y *ℤ pos bottom) → Near 2 (10000000000 * bottom) (pos 2 *ℤ (units_of y *ℤ pos (10000000000 * bottom)) -ℤ pos unit *ℤ v)
mono_near bottom v y c =
    let n = floor_near (y *ℤ pos unit) 1000000000000 bottom (omega arith) in
    let s = swapped y unit bottom in
    let t : units_of y *ℤ pos (10000000000 * bottom) ≡ pos 10000000000 *ℤ (units_of y *ℤ pos bottom) = omega (arith, ints) in
    omega (arith, ints)

first_held : (kind bottom : ℕ) (v y : Side) → CarriesFirstSide kind bottom v y → IsHeld kind (10000000000 * bottom) (errors (10000000000 * bottom) (side_units y) (unit_side v))
first_held kind bottom v y p = record {
  two = λ l n. let k = sent_near bottom v.two y.two (p.two l n) in omega arith;
  three = λ l n. let k = sent_near bottom v.three y.three (p.three l n) in omega arith;
  five = λ l. sent_near bottom v.five y.five (p.five l);
  surround = λ l n. let k = sent_near bottom v.surround y.surround (p.surround l n) in omega arith;
  side = λ l. sent_near bottom v.side y.side (p.side l);
  rear = λ l. let k = sent_near bottom v.rear y.rear (p.rear l) in omega arith;
}

first_tops_held : (kind : Kind) (bottom : ℕ) (v y : Tops) → CarriesFirstTops kind bottom v y → IsTopHeld kind (10000000000 * bottom) (top_errors (10000000000 * bottom) (tops_units y) (unit_tops v))
first_tops_held kind bottom v y p = record {
  three = λ l n. sent_near bottom v.three y.three (p.three l n);
  two = λ l m n. let k = sent_near bottom v.two y.two (p.two l m n) in omega arith;
  four = λ l. sent_near bottom v.four y.four (p.four l);
  back = λ l. let k = sent_near bottom v.back y.back (p.back l) in omega arith;
}

tops_sent : (before now : Kind) (bottom : ℕ) (v y : Tops) → CarriesNextTops before now bottom v y → IsTopSent before now (10000000000 * bottom) (tops_units y) (unit_tops v)
tops_sent before now bottom v y p = record {
  three = λ l n m. sent_near bottom v.three y.three (p.three l n m);
  two = λ l n m o. sent_near bottom v.two y.two (p.two l n m o);
  four = λ l n. sent_near bottom v.four y.four (p.four l n);
  back = λ l n. sent_near bottom v.back y.back (p.back l n);
}

other_error : (b : ℕ) (m l : ℤ) (vm vl vr : ℤ) → vm ≡ vl +ℤ vr
    → (pos 2 *ℤ m -ℤ l) *ℤ pos b -ℤ pos unit *ℤ vr ≡ (pos 2 *ℤ (m *ℤ pos b) -ℤ pos unit *ℤ vm) -ℤ (l *ℤ pos b -ℤ pos unit *ℤ vl)
other_error b m l vm vl vr e =
    let d = distribute_minus (pos 2 *ℤ m) l (pos b) in
    let s = swapped_left m 2 b in
    omega (arith, ints)

-- every channel of the walk is near the exact one
pub fixed_held : (kind : ℕ → Kind) (target : ℕ) (mode : Row) (w : ℕ) (y : ℕ → Bed) (bottom : ℕ) (x : Channels) → IsChain kind target → w ≤ 5000 → FitsKinds kind target mode w y bottom x
    → (i : ℕ) → i ≤ target → IsBedHeld (kind i) (10000000000 * bottom) (bed_errors (10000000000 * bottom) (fixed kind (of mode) w y i) (down (kind target) (of mode) w x))
fixed_held kind target mode w y bottom x chain small f =
    let b = 10000000000 * bottom in
    let k = kind target in
    let v = down k (of mode) w x in
    let e : ℕ → Bed = λ i. bed_errors b (fixed kind (of mode) w y i) v in
    let left = unit_joined k.surround mode v.center v.left (side_down_joined k.surround mode x.center x.left) in
    let right = unit_joined k.surround mode v.center v.right (side_down_joined k.surround mode x.center x.right) in
    let left_top = unit_tops_joined k mode w v.left.surround v.left_top (tops_down_joined k mode w (back_of k.surround (of mode) x.left) x.left.top x.left.top_back) in
    let right_top = unit_tops_joined k mode w v.right.surround v.right_top (tops_down_joined k mode w (back_of k.surround (of mode) x.right) x.right.top x.right.top_back) in
    chain_held kind target mode w b e chain small
    (record {
      mono = λ l. mono_near bottom v.mono (y 0).mono (f.first.mono l);
      center = λ l. sent_near bottom v.center (y 0).center (f.first.center l);
      low = λ l. sent_near bottom v.low (y 0).low (f.first.low l);
      left = first_held (kind 0).surround bottom v.left (y 0).left f.first.left;
      right = first_held (kind 0).surround bottom v.right (y 0).right f.first.right;
      left_top = first_tops_held (kind 0) bottom v.left_top (y 0).left_top f.first.left_top;
      right_top = first_tops_held (kind 0) bottom v.right_top (y 0).right_top f.first.right_top;
    })
    (λ j h. let p = f.next j h in let up = rises_up kind target chain target (suc j) (omega arith) (omega arith) in
    let old = fixed kind (of mode) w y j in
    let sent = bed_units (y (suc j)) in
    let before = kind j in
    let now = kind (suc j) in
    let new = bed_after before now (of mode) w old sent in
    record {
      center_kept = λ k. rw (not_reached 3 before.surround now.surround k) refl;
      low_kept = λ k. rw (not_reached 3 before.surround now.surround k) refl;
      low = λ l n. rw (reached 3 before.surround now.surround l n) (sent_near bottom v.low (y (suc j)).low (p.low l n));
      stereo = λ l n. rw (reached 2 before.surround now.surround l n) (sent_near bottom v.left.two (y (suc j)).left.two (p.stereo l n));
      other = λ l n. rw (reached 2 before.surround now.surround l n)
          (let two : 2 ≤ k.surround = omega (arith, up.0) in other_error b old.mono sent.left.two v.mono v.left.two v.right.two (mono_down k mode w x two));
      mono_kept = λ l. refl;
      left = λ two. side_after_step before.surround now.surround mode b (two_of before.surround now.surround old.left.two sent.left.two) (sent_of 3 before.surround now.surround old.center sent.center)
          (pos unit *ℤ v.center) old.left sent.left (unit_side v.left) (joined_below now.surround k.surround mode (pos unit *ℤ v.center) (unit_side v.left) up.0 left)
          (record {
            given = λ l n. rw (reached 3 before.surround now.surround l n) (sent_near bottom v.center (y (suc j)).center (p.center l n));
            five = λ l n. sent_near bottom v.left.five (y (suc j)).left.five (p.left.five l n);
            side = λ l n. sent_near bottom v.left.side (y (suc j)).left.side (p.left.side l n);
          })
          (λ k. rw (not_reached 2 before.surround now.surround k) refl) two;
      right = λ two. side_after_step before.surround now.surround mode b (two_of before.surround now.surround old.right.two (pos 2 *ℤ old.mono -ℤ sent.left.two)) (sent_of 3 before.surround now.surround old.center sent.center)
          (pos unit *ℤ v.center) old.right sent.right (unit_side v.right) (joined_below now.surround k.surround mode (pos unit *ℤ v.center) (unit_side v.right) up.0 right)
          (record {
            given = λ l n. rw (reached 3 before.surround now.surround l n) (sent_near bottom v.center (y (suc j)).center (p.center l n));
            five = λ l n. sent_near bottom v.right.five (y (suc j)).right.five (p.right.five l n);
            side = λ l n. sent_near bottom v.right.side (y (suc j)).right.side (p.right.side l n);
          })
          (λ k. rw (not_reached 2 before.surround now.surround k) refl) two;
      left_top = tops_after_step before now mode w b new.left.surround (pos unit *ℤ v.left.surround) old.left_top sent.left_top (unit_tops v.left_top) (chain.kinds j (omega arith))
          (tops_joined_below now k mode w (pos unit *ℤ v.left.surround) (unit_tops v.left_top) up.0 up.1 left_top) (tops_sent before now bottom v.left_top (y (suc j)).left_top p.left_top);
      right_top = tops_after_step before now mode w b new.right.surround (pos unit *ℤ v.right.surround) old.right_top sent.right_top (unit_tops v.right_top) (chain.kinds j (omega arith))
          (tops_joined_below now k mode w (pos unit *ℤ v.right.surround) (unit_tops v.right_top) up.0 up.1 right_top) (tops_sent before now bottom v.right_top (y (suc j)).right_top p.right_top);
    })
