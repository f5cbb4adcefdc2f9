use Rattle.std.proofs.Common.{arith, ◌≡◌, ◌<◌, ◌≤◌, ℕ, ℤ, pos, ◌+ℤ◌, ◌-ℤ◌, ◌*ℤ◌, ◌*◌, ap, refl, false}
use Rattle.std.proofs.lemmas.Int.{ints}
use Rattle.std.proofs.Math.Nat.{mul-le-mul_right}
use Rattle.spec_demix.proofs.FloorLemmas.{floor_near, reached, not_reached, distribute_minus, swapped_left, spread, three_given, three_not_given, two_given, two_not_given, three_left, three_not_left, none_left, four_given, four_not_given, back_given, back_not_given, two_split, not_split_low, not_split_high}
use Rattle.spec_demix.proofs.Joins.{IsJoined, IsTopJoined}
use Rattle.spec_demix.proofs.KindFits.{IsKind}
use Rattle.spec_demix.proofs.Near.{Near, IsStep, IsTopStep}
use Rattle.spec_demix.specs.FixedWalk.{three_of, surround_of, side_after, top_two_of, tops_after}
use Rattle.spec_demix.specs.Floor.{floor_of}
use Rattle.spec_demix.specs.Kinds.{leaves_three}
use Rattle.spec_demix.specs.declared.Kind.{Kind}
use Rattle.spec_demix.specs.declared.Side.{Side}
use Rattle.spec_demix.specs.declared.Tops.{Tops}
use Rattle.spec_gains.proofs.ModeLemmas.{Row, alpha_of, beta_of, gamma_of, delta_of, Zero, One, Two, of}
use Rattle.std.proofs.lemmas.Bool.{cases_lt}
use Rattle.std.proofs.Math.Logic.{⊎_elim}

some_beta : (mode : Row) → 0 < beta_of mode
some_beta Zero = omega arith
some_beta One = omega arith
some_beta Two = omega arith

some_gamma : (mode : Row) → 0 < gamma_of mode
some_gamma Zero = omega arith
some_gamma One = omega arith
some_gamma Two = omega arith

some_delta : (mode : Row) → 0 < delta_of mode
some_delta Zero = omega arith
some_delta One = omega arith
some_delta Two = omega arith

-- the kind 3, over a bottom b, against the exact values w
three_step : (b : ℕ) (two center w2 w3 wc : ℤ) → pos 1000 *ℤ w2 ≡ pos 1000 *ℤ w3 +ℤ pos 707 *ℤ wc
    → Near 1000 b (pos 1000 *ℤ ((two -ℤ floor_of (pos 707 *ℤ center) 1000) *ℤ pos b -ℤ w3) -ℤ pos 1000 *ℤ (two *ℤ pos b -ℤ w2) +ℤ pos 707 *ℤ (center *ℤ pos b -ℤ wc))
three_step b two center w2 w3 wc joined =
    let n = floor_near (pos 707 *ℤ center) 1000 b (omega arith) in
    let d = distribute_minus two (floor_of (pos 707 *ℤ center) 1000) (pos b) in
    let c = swapped_left center 707 b in
    omega (arith, ints)

-- a channel that is the difference of two others over a factor of the mode, rounded down
quotient_step : (k b : ℕ) → 0 < k → (sum sent w1 w2 w3 : ℤ) → pos 1000 *ℤ w1 ≡ pos 1000 *ℤ w2 +ℤ pos k *ℤ w3
    → Near k b (pos k *ℤ (floor_of (pos 1000 *ℤ (sum -ℤ sent)) k *ℤ pos b -ℤ w3) -ℤ pos 1000 *ℤ (sum *ℤ pos b -ℤ w1) +ℤ pos 1000 *ℤ (sent *ℤ pos b -ℤ w2))
quotient_step k b some sum sent w1 w2 w3 joined =
    let q = floor_of (pos 1000 *ℤ (sum -ℤ sent)) k in
    let n = floor_near (pos 1000 *ℤ (sum -ℤ sent)) k b some in
    let d = distribute_minus sum sent (pos b) in
    let c = swapped_left (sum -ℤ sent) 1000 b in
    let e = spread k (q *ℤ pos b) w3 in
    omega (arith, ints)

rear_step : (k m b : ℕ) → 0 < m → (surround sent w5 w7 wr : ℤ) → pos 1000 *ℤ w5 ≡ pos k *ℤ w7 +ℤ pos m *ℤ wr
    → Near m b (pos m *ℤ (floor_of (pos 1000 *ℤ surround -ℤ pos k *ℤ sent) m *ℤ pos b -ℤ wr) -ℤ pos 1000 *ℤ (surround *ℤ pos b -ℤ w5) +ℤ pos k *ℤ (sent *ℤ pos b -ℤ w7))
rear_step k m b some surround sent w5 w7 wr joined =
    let q = floor_of (pos 1000 *ℤ surround -ℤ pos k *ℤ sent) m in
    let n = floor_near (pos 1000 *ℤ surround -ℤ pos k *ℤ sent) m b some in
    let d = distribute_minus (pos 1000 *ℤ surround) (pos k *ℤ sent) (pos b) in
    let c = swapped_left surround 1000 b in
    let e = swapped_left sent k b in
    let f = spread m (q *ℤ pos b) wr in
    let g = spread k (sent *ℤ pos b) w7 in
    omega (arith, ints)

-- how far a side over the bottom b is from the exact values w
abbrev pub errors : ℕ → Side → Side → Side
errors b bed w = record {
  two = bed.two *ℤ pos b -ℤ w.two;
  three = bed.three *ℤ pos b -ℤ w.three;
  five = bed.five *ℤ pos b -ℤ w.five;
  surround = bed.surround *ℤ pos b -ℤ w.surround;
  side = bed.side *ℤ pos b -ℤ w.side;
  rear = bed.rear *ℤ pos b -ℤ w.rear;
}

-- what a layer transmits is within one unit
pub record IsSent (before now b : ℕ) (center cw : ℤ) (sent w : Side) : Type 0 where
  pub given : before < 3 → 3 ≤ now → Near 1 b (center *ℤ pos b -ℤ cw)
  pub five : before < 5 → 5 ≤ now → Near 1 b (sent.five *ℤ pos b -ℤ w.five)
  pub side : before < 7 → 7 ≤ now → Near 1 b (sent.side *ℤ pos b -ℤ w.side)

-- the walk makes a step
pub side_after_step : (before now : ℕ) (mode : Row) (b : ℕ) (two center cw : ℤ) (old sent w : Side) → IsJoined now mode cw w → IsSent before now b center cw sent w
    → (2 ≤ before → two ≡ old.two) → (before < 2 → 2 ≤ now → Near 3 b (two *ℤ pos b -ℤ w.two))
    → IsStep before now mode b (center *ℤ pos b -ℤ cw) (errors b old w) (errors b (side_after before now (of mode) two center old sent) w)
side_after_step before now mode b two center cw old sent w j s kept fresh = record {
  two_kept = λ h. ap (λ x. x *ℤ pos b -ℤ w.two) (kept h);
  two = λ l n. fresh l n;
  three_kept = λ h. rw (not_reached 3 before now h) refl;
  three = λ l n. rw (reached 3 before now l n) (three_step b two center w.two w.three cw (j.two n));
  given = s.given;
  five_kept = λ h. rw (not_reached 5 before now h) refl;
  five = λ l n. rw (reached 5 before now l n) (s.five l n);
  surround_kept = λ h. rw (not_reached 5 before now h) refl;
  surround = λ l n. rw (reached 5 before now l n) (quotient_step (delta_of mode) b (some_delta mode) (three_of before now old.three two center) sent.five w.three w.five w.surround (j.three n));
  side_kept = λ h. rw (not_reached 7 before now h) refl;
  side = λ l n. rw (reached 7 before now l n) (s.side l n);
  rear_kept = λ h. rw (not_reached 7 before now h) refl;
  rear = λ l n. rw (reached 7 before now l n) (rear_step (alpha_of mode) (beta_of mode) b (some_beta mode) (surround_of before now (of mode) old.surround (three_of before now old.three two center) sent.five) sent.side w.surround w.side w.rear (j.surround n));
}

-- the walk's step from the kind 3, over a bottom b
left_step : (mode : Row) (w b : ℕ) (three ls w3 w2 ws : ℤ) → pos 10000000 *ℤ w3 ≡ pos 10000000 *ℤ w2 +ℤ pos (w * delta_of mode) *ℤ ws
    → Near 10000000 b (pos 10000000 *ℤ ((three -ℤ floor_of (pos (w * delta_of mode) *ℤ ls) 10000000) *ℤ pos b -ℤ w2) -ℤ pos 10000000 *ℤ (three *ℤ pos b -ℤ w3) +ℤ pos (w * delta_of mode) *ℤ (ls *ℤ pos b -ℤ ws))
left_step mode w b three ls w3 w2 ws joined =
    let k = w * delta_of mode in
    let n = floor_near (pos k *ℤ ls) 10000000 b (omega arith) in
    let d = distribute_minus three (floor_of (pos k *ℤ ls) 10000000) (pos b) in
    let c = swapped_left ls k b in
    let e = spread k (ls *ℤ pos b) ws in
    omega (arith, ints)

abbrev pub top_errors : ℕ → Tops → Tops → Tops
top_errors b t w = record {
  three = t.three *ℤ pos b -ℤ w.three;
  two = t.two *ℤ pos b -ℤ w.two;
  four = t.four *ℤ pos b -ℤ w.four;
  back = t.back *ℤ pos b -ℤ w.back;
}

pub record IsTopSent (before now : Kind) (b : ℕ) (sent w : Tops) : Type 0 where
  pub three : before.height < 2 → 2 ≤ now.height → now.surround < 5 → Near 1 b (sent.three *ℤ pos b -ℤ w.three)
  pub two : before.height < 2 → 2 ≤ now.height → now.height < 4 → 5 ≤ now.surround → Near 1 b (sent.two *ℤ pos b -ℤ w.two)
  pub four : before.height < 4 → 4 ≤ now.height → Near 1 b (sent.four *ℤ pos b -ℤ w.four)
  pub back : before.height < 2 → 4 ≤ now.height → Near 1 b (sent.back *ℤ pos b -ℤ w.back)

pub not_left : (before now : Kind) → IsKind before → before.height < 2 → leaves_three before now ≡ false
not_left before now k l = ⊎_elim (λ low. none_left before now low) (λ some. ⊎_elim (λ few. absurd (let z = k.three some few in omega arith)) (λ wide. three_not_left before now wide) (cases_lt before.surround 5)) (cases_lt before.surround 3)

near_more : (k m b : ℕ) (z : ℤ) → k ≤ m → Near k b z → Near m b z
near_more k m b z h n = let p = mul-le-mul_right b h in omega (arith, p)

pub tops_after_step : (before now : Kind) (mode : Row) (w b : ℕ) (surround ws : ℤ) (old sent t : Tops) → IsKind before → IsTopJoined now mode w ws t → IsTopSent before now b sent t
    → IsTopStep before now mode w b (surround *ℤ pos b -ℤ ws) (top_errors b old t) (top_errors b (tops_after before now (of mode) w surround old sent) t)
tops_after_step before now mode w b surround ws old sent t k j s = record {
  three_kept = λ h. rw (three_not_given before now h) refl;
  three = λ l n m. rw (three_given before now l n m) (s.three l n m);
  two_kept = λ l h. rw (three_not_left before now h) (rw (two_not_given before now l) refl);
  two = λ l n m o. rw (not_left before now k l) (rw (two_given before now l n m o) (near_more 1 7 b (sent.two *ℤ pos b -ℤ t.two) (omega arith) (s.two l n m o)));
  two_left = λ l m n. rw (three_left before now l m n) (left_step mode w b old.three surround t.three t.two ws (j.three n));
  four_kept = λ h. rw (four_not_given before now h) refl;
  four = λ l n. rw (four_given before now l n) (s.four l n);
  back_kept = λ h. rw (not_split_high before now h) (rw (back_not_given before now (omega arith)) refl);
  back = λ l n. rw (not_split_low before now l) (rw (back_given before now l n) (near_more 1 13 b (sent.back *ℤ pos b -ℤ t.back) (omega arith) (s.back l n)));
  back_split = λ l m n. rw (two_split before now l m n) (rw (four_given before now m n)
      (quotient_step (gamma_of mode) b (some_gamma mode) (top_two_of before now (of mode) w surround old.three old.two sent.two) sent.four t.two t.four t.back (j.two n)));
}
