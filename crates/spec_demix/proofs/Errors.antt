use Rattle.std.proofs.Common.{arith, ◌<◌, ◌≤◌, ℕ, zero, suc, ℤ, pos, ◌+ℤ◌, ◌-ℤ◌, ◌*ℤ◌, ◌*◌, unsigned_abs}
use Rattle.std.proofs.lemmas.Int.{ints}
use Rattle.std.proofs.Math.Logic.{⊎_elim}
use Rattle.std.proofs.lemmas.Bool.{cases_lt}
use Rattle.spec_demix.proofs.KindFits.{IsKind, IsChain}
use Rattle.spec_demix.proofs.Near.{Near, IsHeld, IsStep, IsTopHeld, IsTopStep, IsBedHeld, IsBedStep}
use Rattle.spec_demix.specs.declared.Bed.{Bed}
use Rattle.spec_demix.specs.declared.Kind.{Kind}
use Rattle.spec_demix.specs.declared.Side.{Side}
use Rattle.spec_demix.specs.declared.Tops.{Tops}
use Rattle.spec_gains.proofs.ModeLemmas.{Row, alpha_of, beta_of, gamma_of, delta_of, Zero, One, Two}
use Rattle.std.proofs.Math.Nat.{mul-le-mul}
use Rattle.std.proofs.lemmas.Int.{unsigned_abs-mul}

three_near : (u : ℕ) (two three center : ℤ) → Near 3 u two → Near 1 u center → Near 1000 u (pos 1000 *ℤ three -ℤ pos 1000 *ℤ two +ℤ pos 707 *ℤ center) → Near 5 u three
three_near u two three center a b d = omega (arith, ints)

surround_near : (mode : Row) (u : ℕ) (three five surround : ℤ) → Near 5 u three → Near 1 u five
    → Near (delta_of mode) u (pos (delta_of mode) *ℤ surround -ℤ pos 1000 *ℤ three +ℤ pos 1000 *ℤ five) → Near 10 u surround
surround_near Zero u three five surround a b d = omega (arith, ints)
surround_near One u three five surround a b d = omega (arith, ints)
surround_near Two u three five surround a b d = omega (arith, ints)

rear_near : (mode : Row) (u : ℕ) (surround side rear : ℤ) → Near 10 u surround → Near 1 u side
    → Near (beta_of mode) u (pos (beta_of mode) *ℤ rear -ℤ pos 1000 *ℤ surround +ℤ pos (alpha_of mode) *ℤ side) → Near 17 u rear
rear_near Zero u surround side rear a b d = omega (arith, ints)
rear_near One u surround side rear a b d = omega (arith, ints)
rear_near Two u surround side rear a b d = omega (arith, ints)

-- the left of stereo before a step to the kind 3
stereo_near : (before now : ℕ) (mode : Row) (u : ℕ) (c : ℤ) (e f : Side) → IsHeld before u e → IsStep before now mode u c e f → before < 3 → 2 ≤ now → Near 3 u f.two
stereo_near before now mode u c e f h s b n =
    ⊎_elim (λ low. s.two low n) (λ high. rw (s.two_kept high) (h.two high b)) (cases_lt before 2)

kind3_near : (before now : ℕ) (mode : Row) (u : ℕ) (c : ℤ) (e f : Side) → IsHeld before u e → IsStep before now mode u c e f → before < 5 → 3 ≤ now → Near 5 u f.three
kind3_near before now mode u c e f h s b n =
    ⊎_elim
    (λ low. three_near u f.two f.three c (stereo_near before now mode u c e f h s low (omega arith)) (s.given low n) (s.three low n))
    (λ high. rw (s.three_kept high) (h.three high b))
    (cases_lt before 3)

pub kind5_near : (before now : ℕ) (mode : Row) (u : ℕ) (c : ℤ) (e f : Side) → IsHeld before u e → IsStep before now mode u c e f → before < 7 → 5 ≤ now → Near 10 u f.surround
kind5_near before now mode u c e f h s b n =
    ⊎_elim
    (λ low. surround_near mode u f.three f.five f.surround (kind3_near before now mode u c e f h s low (omega arith)) (s.five low n) (s.surround low n))
    (λ high. rw (s.surround_kept high) (h.surround high b))
    (cases_lt before 5)

-- the errors stay held
pub held_next : (before now : ℕ) (mode : Row) (u : ℕ) (c : ℤ) (e f : Side) → before ≤ now → IsHeld before u e → IsStep before now mode u c e f → IsHeld now u f
held_next before now mode u c e f up h s = record {
  two = λ l b. stereo_near before now mode u c e f h s (omega arith) l;
  three = λ l b. kind3_near before now mode u c e f h s (omega arith) l;
  five = λ l. ⊎_elim (λ low. s.five low l) (λ high. rw (s.five_kept high) (h.five high)) (cases_lt before 5);
  surround = λ l b. kind5_near before now mode u c e f h s (omega arith) l;
  side = λ l. ⊎_elim (λ low. s.side low l) (λ high. rw (s.side_kept high) (h.side high)) (cases_lt before 7);
  rear = λ l. ⊎_elim
      (λ low. rear_near mode u f.surround f.side f.rear (kind5_near before now mode u c e f h s low (omega arith)) (s.side low l) (s.rear low l))
      (λ high. rw (s.rear_kept high) (h.rear high))
      (cases_lt before 7);
}

pub delta_small : (mode : Row) → delta_of mode ≤ 866
delta_small Zero = omega arith
delta_small One = omega arith
delta_small Two = omega arith

two_near : (mode : Row) (u w : ℕ) (two three ls : ℤ) → w ≤ 5000 → Near 1 u three → Near 10 u ls
    → Near 10000000 u (pos 10000000 *ℤ two -ℤ pos 10000000 *ℤ three +ℤ pos (w * delta_of mode) *ℤ ls) → Near 7 u two
two_near mode u w two three ls small a b d =
    let k : w * delta_of mode ≤ 5000 * 866 = mul-le-mul small (delta_small mode) in
    let p : unsigned_abs (pos (w * delta_of mode) *ℤ ls) ≤ (5000 * 866) * (10 * u) = rw unsigned_abs-mul (mul-le-mul k b) in
    top_lem u two three (pos (w * delta_of mode) *ℤ ls) p a d
  where
    top_lem : (u : ℕ) (two three t : ℤ) → unsigned_abs t ≤ (5000 * 866) * (10 * u) → Near 1 u three → Near 10000000 u (pos 10000000 *ℤ two -ℤ pos 10000000 *ℤ three +ℤ t) → Near 7 u two
    top_lem u two three t p a d = omega (arith, ints)

back_near : (mode : Row) (u : ℕ) (two four back : ℤ) → Near 7 u two → Near 1 u four
    → Near (gamma_of mode) u (pos (gamma_of mode) *ℤ back -ℤ pos 1000 *ℤ two +ℤ pos 1000 *ℤ four) → Near 13 u back
back_near Zero u two four back a b d = omega (arith, ints)
back_near One u two four back a b d = omega (arith, ints)
back_near Two u two four back a b d = omega (arith, ints)

-- two tops below the kind of four, at a step to a higher kind
tops_two : (before now : Kind) (mode : Row) (w u : ℕ) (ls : ℤ) (e f : Tops) → IsKind before → IsTopHeld before u e → IsTopStep before now mode w u ls e f → w ≤ 5000 → (before.surround < 5 → Near 10 u ls)
    → 2 ≤ before.height → before.height < 4 → 5 ≤ now.surround → Near 7 u f.two
tops_two before now mode w u ls e f k h s small near some few up =
    ⊎_elim
    (λ low. ⊎_elim
    (λ none. absurd (let z = k.low none in omega arith))
    (λ three. two_near mode u w f.two e.three ls small (h.three some low) (near low) (s.two_left three low up))
    (cases_lt before.surround 3))
    (λ high. rw (s.two_kept some high) (h.two some few high))
    (cases_lt before.surround 5)

pub wide_of : (k : Kind) → IsKind k → 4 ≤ k.height → 5 ≤ k.surround
wide_of k n l = ⊎_elim (λ low. absurd (let z = n.low low in omega arith)) (λ some. ⊎_elim (λ few. absurd (let z = n.three some few in omega arith)) (λ wide. wide) (cases_lt k.surround 5)) (cases_lt k.surround 3)

pub tops_next : (before now : Kind) (mode : Row) (w u : ℕ) (ls : ℤ) (e f : Tops) → IsKind before → IsKind now → before.surround ≤ now.surround → before.height ≤ now.height → w ≤ 5000 → (before.surround < 5 → 5 ≤ now.surround → Near 10 u ls)
    → IsTopHeld before u e → IsTopStep before now mode w u ls e f → IsTopHeld now u f
tops_next before now mode w u ls e f k n ups uph small near h s = record {
  three = λ l b. ⊎_elim (λ low. s.three low l b) (λ high. rw (s.three_kept high) (h.three high (omega arith))) (cases_lt before.height 2);
  two = λ l b m. ⊎_elim
      (λ low. s.two low l b m)
      (λ high. tops_two before now mode w u ls e f k h s small (λ x. near x m) high (omega arith) m)
      (cases_lt before.height 2);
  four = λ l. ⊎_elim (λ low. s.four low l) (λ high. rw (s.four_kept high) (h.four high)) (cases_lt before.height 4);
  back = λ l.
      let wide : 5 ≤ now.surround = wide_of now n l in
      ⊎_elim
      (λ low. s.back low l)
      (λ some. ⊎_elim
      (λ few. back_near mode u f.two f.four f.back (tops_two before now mode w u ls e f k h s small (λ x. near x wide) some few wide) (s.four few l) (s.back_split some few l))
      (λ high. rw (s.back_kept high) (h.back high))
      (cases_lt before.height 4))
      (cases_lt before.height 2);
}

pub bed_next : (before now : Kind) (mode : Row) (w u : ℕ) (e f : Bed) → IsKind before → IsKind now → before.surround ≤ now.surround → before.height ≤ now.height → w ≤ 5000 → IsBedHeld before u e → IsBedStep before now mode w u e f → IsBedHeld now u f
bed_next before now mode w u e f kb kn up climb small h s =
    let near_left : before.surround < 2 → 2 ≤ now.surround → Near 3 u f.left.two = λ l n. let k = s.stereo l n in omega arith in
    let near_right : before.surround < 2 → 2 ≤ now.surround → Near 3 u f.right.two = λ l n. let k = s.stereo l n in let m = h.mono l in let o = s.other l n in omega (arith, ints) in
    let left = s.left near_left in
    let right = s.right near_right in
    record {
      mono = λ l. rw (s.mono_kept l) (h.mono (omega arith));
      center = λ l. ⊎_elim (λ low. left.given low l) (λ high. rw (s.center_kept high) (h.center high)) (cases_lt before.surround 3);
      low = λ l. ⊎_elim (λ low. s.low low l) (λ high. rw (s.low_kept high) (h.low high)) (cases_lt before.surround 3);
      left = held_next before.surround now.surround mode u f.center e.left f.left up h.left left;
      right = held_next before.surround now.surround mode u f.center e.right f.right up h.right right;
      left_top = tops_next before now mode w u f.left.surround e.left_top f.left_top kb kn up climb small
          (λ l n. kind5_near before.surround now.surround mode u f.center e.left f.left h.left left (omega arith) n) h.left_top s.left_top;
      right_top = tops_next before now mode w u f.right.surround e.right_top f.right_top kb kn up climb small
          (λ l n. kind5_near before.surround now.surround mode u f.center e.right f.right h.right right (omega arith) n) h.right_top s.right_top;
    }

-- along a chain
pub chain_held : (kind : ℕ → Kind) (target : ℕ) (mode : Row) (w u : ℕ) (e : ℕ → Bed) → IsChain kind target → w ≤ 5000 → IsBedHeld (kind 0) u (e 0)
    → ((j : ℕ) → j < target → IsBedStep (kind j) (kind (suc j)) mode w u (e j) (e (suc j))) → (i : ℕ) → i ≤ target → IsBedHeld (kind i) u (e i)
chain_held kind target mode w u e chain small first step zero h = first
chain_held kind target mode w u e chain small first step (suc i) h =
    bed_next (kind i) (kind (suc i)) mode w u (e i) (e (suc i)) (chain.kinds i (omega arith)) (chain.kinds (suc i) h) (chain.rises i (omega arith)) (chain.climbs i (omega arith)) small
    (chain_held kind target mode w u e chain small first step i (omega arith)) (step i (omega arith))
