use Rattle.std.proofs.Common.{arith, ◌≡◌, ◌<◌, ◌≤◌, ℕ, zero, suc, ℤ, pos, ◌+ℤ◌, ◌-ℤ◌, ◌*ℤ◌, ◌*◌, ap, refl, sym, ◌∙◌}
use Rattle.std.proofs.lemmas.Int.{ints}
use Rattle.std.proofs.lemmas.Bool.{cases_lt}
use Rattle.std.proofs.Math.Logic.{⊎_elim}
use Rattle.spec_demix.proofs.Agreement.{rises_up}
use Rattle.spec_demix.proofs.Errors.{wide_of}
use Rattle.spec_demix.proofs.FloorLemmas.{reached, not_reached, distribute, swapped_left, passes, fails, factors, three_given, three_not_given, two_given, two_not_given, three_left, three_not_left, four_given, four_not_given, back_given, back_not_given, two_split, not_split_low, not_split_high}
use Rattle.spec_demix.proofs.KindFits.{IsKind, CarriesAs, IsChain}
use Rattle.spec_demix.proofs.WalkLemmas.{not_left}
use Rattle.spec_demix.specs.Downmix.{back_of, side_down, tops_down}
use Rattle.spec_demix.specs.ExactWalk.{exact, exact_first, exact_after, exact_first_side, exact_side_after, exact_first_tops, exact_tops_after, exact_half, scale_of, bottom_of}
use Rattle.spec_demix.specs.declared.Bed.{Bed}
use Rattle.spec_demix.specs.declared.Kind.{Kind}
use Rattle.spec_demix.specs.declared.Side.{Side}
use Rattle.spec_demix.specs.declared.Tops.{Tops}
use Rattle.spec_gains.proofs.ModeLemmas.{Row, alpha_of, beta_of, gamma_of, delta_of, Zero, One, Two, of}

-- what the exact walk has tied since the first layer
pub record IsTied (first now : ℕ) (mode : Row) (center : ℤ) (v : Side) : Type 0 where
  pub three : first < 3 → 3 ≤ now → pos 1000 *ℤ v.two ≡ v.three +ℤ pos 707 *ℤ center
  pub surround : first < 5 → 5 ≤ now → v.three ≡ pos 1000 *ℤ v.five +ℤ v.surround
  pub rear : first < 7 → 7 ≤ now → pos 1000 *ℤ v.surround ≡ pos (alpha_of mode * delta_of mode) *ℤ v.side +ℤ v.rear

-- what a step keeps
record IsKept (before : ℕ) (c d : ℤ) (v w : Side) : Type 0 where
  two : 2 ≤ before → w.two ≡ v.two
  center : 3 ≤ before → d ≡ c
  three : 3 ≤ before → w.three ≡ v.three
  five : 5 ≤ before → w.five ≡ v.five
  surround : 5 ≤ before → w.surround ≡ v.surround
  side : 7 ≤ before → w.side ≡ v.side
  rear : 7 ≤ before → w.rear ≡ v.rear

kept : (before now : ℕ) (mode : Row) (c center two : ℤ) (old y : Side) → (2 ≤ before → two ≡ old.two) → (3 ≤ before → center ≡ c) → IsKept before c center old (exact_side_after before now (of mode) two center old y)
kept before now mode c center two old y k l = record {
  two = k;
  center = l;
  three = λ h. rw (not_reached 3 before now h) refl;
  five = λ h. rw (not_reached 5 before now h) refl;
  surround = λ h. rw (not_reached 5 before now h) refl;
  side = λ h. rw (not_reached 7 before now h) refl;
  rear = λ h. rw (not_reached 7 before now h) refl;
}

tied_next : (first before now : ℕ) (mode : Row) (c center two : ℤ) (old y : Side) → before ≤ now → IsTied first before mode c old → (2 ≤ before → two ≡ old.two) → (3 ≤ before → center ≡ c)
    → IsTied first now mode center (exact_side_after before now (of mode) two center old y)
tied_next first before now mode c center two old y up t k l =
    let q = kept before now mode c center two old y k l in
    record {
      three = λ f n. ⊎_elim
          (λ low. rw (reached 3 before now low n) (omega (arith, ints)))
          (λ high. rw (not_reached 3 before now high) (rw (l high) (rw (k (omega arith)) (t.three f high))))
          (cases_lt before 3);
      surround = λ f n. ⊎_elim
          (λ low. rw (reached 5 before now low n) (omega (arith, ints)))
          (λ high. rw (not_reached 5 before now high) (rw (not_reached 3 before now (omega arith)) (t.surround f high)))
          (cases_lt before 5);
      rear = λ f n. ⊎_elim
          (λ low. rw (reached 7 before now low n) (omega (arith, ints)))
          (λ high. rw (not_reached 7 before now high) (rw (not_reached 5 before now (omega arith)) (t.rear f high)))
          (cases_lt before 7);
    }

-- the same of the tops: a layer of the kind 3 was passed, or one with two tops
pub record IsTopTied (kind : ℕ → Kind) (i : ℕ) (w : ℕ) (surround : ℤ) (v : Tops) : Type 0 where
  pub three : (j : ℕ) → j ≤ i → 3 ≤ (kind j).surround → (kind j).surround < 5 → 5 ≤ (kind i).surround → pos 10000000 *ℤ v.three ≡ v.two +ℤ pos w *ℤ surround
  pub two : (j : ℕ) → j ≤ i → 2 ≤ (kind j).height → (kind j).height < 4 → 4 ≤ (kind i).height → v.two ≡ pos 10000000 *ℤ v.four +ℤ v.back

record IsTopKept (before : Kind) (v w : Tops) : Type 0 where
  three : 2 ≤ before.height → w.three ≡ v.three
  two : 2 ≤ before.height → 5 ≤ before.surround → w.two ≡ v.two
  four : 4 ≤ before.height → w.four ≡ v.four
  back : 4 ≤ before.height → w.back ≡ v.back

kept_tops : (before now : Kind) (mode : Row) (w : ℕ) (surround : ℤ) (old y : Tops) → IsTopKept before old (exact_tops_after before now (of mode) w surround old y)
kept_tops before now mode w surround old y = record {
  three = λ h. rw (three_not_given before now h) refl;
  two = λ h s. rw (three_not_left before now s) (rw (two_not_given before now h) refl);
  four = λ h. rw (four_not_given before now h) refl;
  back = λ h. rw (not_split_high before now h) (rw (back_not_given before now (omega arith)) refl);
}

tied_left : (three ls : ℤ) (w : ℕ) → pos 10000000 *ℤ three ≡ pos 10000000 *ℤ three -ℤ pos w *ℤ ls +ℤ pos w *ℤ ls
tied_left three ls w = omega (arith, ints)

tied_split : (two four : ℤ) → two ≡ pos 10000000 *ℤ four +ℤ (two -ℤ pos 10000000 *ℤ four)
tied_split two four = omega (arith, ints)

tops_tied_next : (kind : ℕ → Kind) (target i : ℕ) (mode : Row) (w : ℕ) (ls ls' : ℤ) (old y : Tops) → IsChain kind target → suc i ≤ target → (5 ≤ (kind i).surround → ls' ≡ ls) → IsTopTied kind i w ls old
    → IsTopTied kind (suc i) w ls' (exact_tops_after (kind i) (kind (suc i)) (of mode) w ls' old y)
tops_tied_next kind target i mode w ls ls' old y chain h same t =
    let before = kind i in
    let now = kind (suc i) in
    let q = kept_tops before now mode w ls' old y in
    let here : IsKind before = chain.kinds i (omega arith) in
    record {
      three = λ j l a b n.
          let low : j ≤ i = ⊎_elim (λ x. omega arith) (λ x. absurd (let e : j ≡ suc i = omega arith in let b' = rw e at b in omega arith)) (cases_lt j (suc i)) in
          let up = rises_up kind target chain i j low (omega arith) in
          ⊎_elim
          (λ few.
          let s3 : 3 ≤ before.surround = omega (arith, up.0) in
          let h2 : before.height ≡ 2 = here.three s3 few in
          rw (three_left before now s3 few n) (rw (three_not_given before now (omega arith)) (tied_left old.three ls' w)))
          (λ wide.
          let j2 = (chain.kinds j (omega arith)).three a b in
          let h2 : 2 ≤ before.height = omega (arith, up.1) in
          rw (three_not_left before now wide) (rw (two_not_given before now h2) (rw (three_not_given before now h2) (rw (same wide) (t.three j low a b wide)))))
          (cases_lt before.surround 5);
      two = λ j l a b n.
          let low : j ≤ i = ⊎_elim (λ x. omega arith) (λ x. absurd (let e : j ≡ suc i = omega arith in let b' = rw e at b in omega arith)) (cases_lt j (suc i)) in
          let up = rises_up kind target chain i j low (omega arith) in
          let h2 : 2 ≤ before.height = omega (arith, up.1) in
          ⊎_elim
          (λ few. rw (two_split before now h2 few n) (rw (four_given before now few n) (tied_split _ y.four)))
          (λ high.
          let wide : 5 ≤ before.surround = wide_of before here high in
          rw (three_not_left before now wide) (rw (two_not_given before now h2) (rw (not_split_high before now high) (rw (four_not_given before now high) (rw (back_not_given before now h2) (t.two j low a b high))))))
          (cases_lt before.height 4);
    }

-- a surround of the kind 5, in thousandths
back_is : (kind : Kind) (first : ℕ) (mode : Row) (c : ℤ) (v : Side) (t : Tops) → IsTied first kind.surround mode c v → first < 7 → 5 ≤ kind.surround → back_of kind.surround (of mode) (exact_half kind (of mode) v t) ≡ pos (10000000000 * (beta_of mode * gamma_of mode)) *ℤ v.surround
back_is kind first Zero c v t e f n = ⊎_elim
    (λ low. rw (fails 7 kind.surround low) (omega (arith, ints)))
    (λ high. let r = e.rear f high in rw (passes 7 kind.surround high) (omega (arith, ints)))
    (cases_lt kind.surround 7)
back_is kind first One c v t e f n = ⊎_elim
    (λ low. rw (fails 7 kind.surround low) (omega (arith, ints)))
    (λ high. let r = e.rear f high in rw (passes 7 kind.surround high) (omega (arith, ints)))
    (cases_lt kind.surround 7)
back_is kind first Two c v t e f n = ⊎_elim
    (λ low. rw (fails 7 kind.surround low) (omega (arith, ints)))
    (λ high. let r = e.rear f high in rw (passes 7 kind.surround high) (omega (arith, ints)))
    (cases_lt kind.surround 7)

pub world_surround : (kind : Kind) (first : ℕ) (mode : Row) (c : ℤ) (v : Side) (t : Tops) → IsTied first kind.surround mode c v → first < 7 → 5 ≤ kind.surround
    → (side_down kind.surround (of mode) (pos (10000000 * scale_of (of mode)) *ℤ c) (exact_half kind (of mode) v t)).surround ≡ pos (10000000 * (10000000000 * (beta_of mode * gamma_of mode))) *ℤ v.surround
world_surround kind first Zero c v t e f n = let b = back_is kind first Zero c v t e f n in omega (arith, ints)
world_surround kind first One c v t e f n = let b = back_is kind first One c v t e f n in omega (arith, ints)
world_surround kind first Two c v t e f n = let b = back_is kind first Two c v t e f n in omega (arith, ints)

pub world_three : (kind : Kind) (first : ℕ) (mode : Row) (c : ℤ) (v : Side) (t : Tops) → IsTied first kind.surround mode c v → first < 5 → 3 ≤ kind.surround
    → (side_down kind.surround (of mode) (pos (10000000 * scale_of (of mode)) *ℤ c) (exact_half kind (of mode) v t)).three ≡ pos (10000000000 * (10000 * scale_of (of mode))) *ℤ v.three
world_three kind first Zero c v t e f n = ⊎_elim
    (λ low. rw (fails 5 kind.surround low) (rw (passes 3 kind.surround n) (omega (arith, ints))))
    (λ high. let b = back_is kind first Zero c v t e (omega arith) high in let s = e.surround f high in rw (passes 5 kind.surround high) (omega (arith, ints)))
    (cases_lt kind.surround 5)
world_three kind first One c v t e f n = ⊎_elim
    (λ low. rw (fails 5 kind.surround low) (rw (passes 3 kind.surround n) (omega (arith, ints))))
    (λ high. let b = back_is kind first One c v t e (omega arith) high in let s = e.surround f high in rw (passes 5 kind.surround high) (omega (arith, ints)))
    (cases_lt kind.surround 5)
world_three kind first Two c v t e f n = ⊎_elim
    (λ low. rw (fails 5 kind.surround low) (rw (passes 3 kind.surround n) (omega (arith, ints))))
    (λ high. let b = back_is kind first Two c v t e (omega arith) high in let s = e.surround f high in rw (passes 5 kind.surround high) (omega (arith, ints)))
    (cases_lt kind.surround 5)

pub world_two : (kind : Kind) (first : ℕ) (mode : Row) (c : ℤ) (v : Side) (t : Tops) → IsTied first kind.surround mode c v → first < 3 → 2 ≤ kind.surround
    → (side_down kind.surround (of mode) (pos (10000000 * scale_of (of mode)) *ℤ c) (exact_half kind (of mode) v t)).two ≡ pos (10000000000 * (10000000 * scale_of (of mode))) *ℤ v.two
world_two kind first Zero c v t e f n = ⊎_elim
    (λ low. rw (fails 3 kind.surround low) (rw (fails 5 kind.surround (omega arith)) (omega (arith, ints))))
    (λ high. let b = rw (passes 3 kind.surround high) at (world_three kind first Zero c v t e (omega arith) high) in let s = e.three f high in rw (passes 3 kind.surround high) (omega (arith, ints)))
    (cases_lt kind.surround 3)
world_two kind first One c v t e f n = ⊎_elim
    (λ low. rw (fails 3 kind.surround low) (rw (fails 5 kind.surround (omega arith)) (omega (arith, ints))))
    (λ high. let b = rw (passes 3 kind.surround high) at (world_three kind first One c v t e (omega arith) high) in let s = e.three f high in rw (passes 3 kind.surround high) (omega (arith, ints)))
    (cases_lt kind.surround 3)
world_two kind first Two c v t e f n = ⊎_elim
    (λ low. rw (fails 3 kind.surround low) (rw (fails 5 kind.surround (omega arith)) (omega (arith, ints))))
    (λ high. let b = rw (passes 3 kind.surround high) at (world_three kind first Two c v t e (omega arith) high) in let s = e.three f high in rw (passes 3 kind.surround high) (omega (arith, ints)))
    (cases_lt kind.surround 3)

abbrev pub tops_seen : Kind → Row → ℕ → Side → Tops → Tops
tops_seen kind mode w v t = tops_down kind (of mode) w (back_of kind.surround (of mode) (exact_half kind (of mode) v t)) (exact_half kind (of mode) v t).top (exact_half kind (of mode) v t).top_back

pub world_top_two : (kind : Kind) (mode : Row) (w : ℕ) (v : Side) (t : Tops) → 5 ≤ kind.surround → (4 ≤ kind.height → t.two ≡ pos 10000000 *ℤ t.four +ℤ t.back)
    → (tops_seen kind mode w v t).two ≡ pos (10000000000 * scale_of (of mode)) *ℤ t.two
world_top_two kind Zero w v t n e = ⊎_elim
    (λ low. rw (fails 4 kind.height low) (rw (passes 5 kind.surround n) (omega (arith, ints))))
    (λ high. let s = e high in rw (passes 4 kind.height high) (omega (arith, ints)))
    (cases_lt kind.height 4)
world_top_two kind One w v t n e = ⊎_elim
    (λ low. rw (fails 4 kind.height low) (rw (passes 5 kind.surround n) (omega (arith, ints))))
    (λ high. let s = e high in rw (passes 4 kind.height high) (omega (arith, ints)))
    (cases_lt kind.height 4)
world_top_two kind Two w v t n e = ⊎_elim
    (λ low. rw (fails 4 kind.height low) (rw (passes 5 kind.surround n) (omega (arith, ints))))
    (λ high. let s = e high in rw (passes 4 kind.height high) (omega (arith, ints)))
    (cases_lt kind.height 4)

weighed : (w d n : ℕ) (z : ℤ) → pos (w * d) *ℤ (pos n *ℤ z) ≡ pos (d * n) *ℤ (pos w *ℤ z)
weighed w d n z = let a = factors (w * d) n z in let b = factors (d * n) w z in let c : (w * d) * n ≡ (d * n) * w = omega arith in a ∙ ap (λ k. pos k *ℤ z) c ∙ sym b

few_of : (k : Kind) → IsKind k → k.surround < 5 → k.height < 4
few_of k n l = ⊎_elim (λ low. let z = n.low low in omega arith) (λ some. let z = n.three some l in omega arith) (cases_lt k.surround 3)

pub world_top_three : (kind : Kind) (first : ℕ) (mode : Row) (w : ℕ) (c : ℤ) (v : Side) (t : Tops) → IsKind kind → IsTied first kind.surround mode c v → first < 7 → (5 ≤ kind.surround → pos 10000000 *ℤ t.three ≡ t.two +ℤ pos w *ℤ v.surround) → (5 ≤ kind.surround → 4 ≤ kind.height → t.two ≡ pos 10000000 *ℤ t.four +ℤ t.back)
    → (tops_seen kind mode w v t).three ≡ pos (10000000000 * (10000000 * scale_of (of mode))) *ℤ t.three
world_top_three kind first Zero w c v t k e f g h = ⊎_elim
    (λ low. rw (fails 5 kind.surround low) (rw (fails 4 kind.height (few_of kind k low)) (omega (arith, ints))))
    (λ high.
    let b = back_is kind first Zero c v t e f high in
    let two = rw (passes 5 kind.surround high) at (world_top_two kind Zero w v t high (h high)) in
    let s = g high in
    let m = weighed w (delta_of Zero) (10000000000 * (beta_of Zero * gamma_of Zero)) v.surround in
    rw (passes 5 kind.surround high) (rw b (omega (arith, ints))))
    (cases_lt kind.surround 5)
world_top_three kind first One w c v t k e f g h = ⊎_elim
    (λ low. rw (fails 5 kind.surround low) (rw (fails 4 kind.height (few_of kind k low)) (omega (arith, ints))))
    (λ high.
    let b = back_is kind first One c v t e f high in
    let two = rw (passes 5 kind.surround high) at (world_top_two kind One w v t high (h high)) in
    let s = g high in
    let m = weighed w (delta_of One) (10000000000 * (beta_of One * gamma_of One)) v.surround in
    rw (passes 5 kind.surround high) (rw b (omega (arith, ints))))
    (cases_lt kind.surround 5)
world_top_three kind first Two w c v t k e f g h = ⊎_elim
    (λ low. rw (fails 5 kind.surround low) (rw (fails 4 kind.height (few_of kind k low)) (omega (arith, ints))))
    (λ high.
    let b = back_is kind first Two c v t e f high in
    let two = rw (passes 5 kind.surround high) at (world_top_two kind Two w v t high (h high)) in
    let s = g high in
    let m = weighed w (delta_of Two) (10000000000 * (beta_of Two * gamma_of Two)) v.surround in
    rw (passes 5 kind.surround high) (rw b (omega (arith, ints))))
    (cases_lt kind.surround 5)

-- what a layer of the walk has sent stands in its channels
pub record IsSentNextTops (before now : Kind) (mode : Row) (v y : Tops) : Type 0 where
  pub three : before.height < 2 → 2 ≤ now.height → now.surround < 5 → v.three ≡ y.three
  pub two : before.height < 2 → 2 ≤ now.height → now.height < 4 → 5 ≤ now.surround → v.two ≡ pos 10000000 *ℤ y.two
  pub four : before.height < 4 → 4 ≤ now.height → v.four ≡ y.four
  pub back : before.height < 2 → 4 ≤ now.height → v.back ≡ pos (10000 * gamma_of mode) *ℤ y.back

pub record IsSentNext (before now : Kind) (mode : Row) (v y : Bed) : Type 0 where
  pub stereo : before.surround < 2 → 2 ≤ now.surround → v.left.two ≡ y.left.two
  pub center : before.surround < 3 → 3 ≤ now.surround → v.center ≡ y.center
  pub low : before.surround < 3 → 3 ≤ now.surround → v.low ≡ y.low
  pub left_five : before.surround < 5 → 5 ≤ now.surround → v.left.five ≡ y.left.five
  pub right_five : before.surround < 5 → 5 ≤ now.surround → v.right.five ≡ y.right.five
  pub left_side : before.surround < 7 → 7 ≤ now.surround → v.left.side ≡ y.left.side
  pub right_side : before.surround < 7 → 7 ≤ now.surround → v.right.side ≡ y.right.side
  pub left_top : IsSentNextTops before now mode v.left_top y.left_top
  pub right_top : IsSentNextTops before now mode v.right_top y.right_top

pub record IsSentFirstSide (kind : ℕ) (mode : Row) (v y : Side) : Type 0 where
  pub two : 2 ≤ kind → kind < 3 → v.two ≡ y.two
  pub three : 3 ≤ kind → kind < 5 → v.three ≡ pos 1000 *ℤ y.three
  pub five : 5 ≤ kind → v.five ≡ y.five
  pub surround : 5 ≤ kind → kind < 7 → v.surround ≡ pos (delta_of mode) *ℤ y.surround
  pub side : 7 ≤ kind → v.side ≡ y.side
  pub rear : 7 ≤ kind → v.rear ≡ pos (delta_of mode * beta_of mode) *ℤ y.rear

pub record IsSentFirstTops (kind : Kind) (mode : Row) (v y : Tops) : Type 0 where
  pub three : 2 ≤ kind.height → kind.surround < 5 → v.three ≡ y.three
  pub two : 2 ≤ kind.height → kind.height < 4 → 5 ≤ kind.surround → v.two ≡ pos 10000000 *ℤ y.two
  pub four : 4 ≤ kind.height → v.four ≡ y.four
  pub back : 4 ≤ kind.height → v.back ≡ pos (10000 * gamma_of mode) *ℤ y.back

pub record IsSentFirst (kind : Kind) (mode : Row) (v y : Bed) : Type 0 where
  pub mono : kind.surround < 2 → v.mono ≡ y.mono
  pub center : 3 ≤ kind.surround → v.center ≡ y.center
  pub low : 3 ≤ kind.surround → v.low ≡ y.low
  pub left : IsSentFirstSide kind.surround mode v.left y.left
  pub right : IsSentFirstSide kind.surround mode v.right y.right
  pub left_top : IsSentFirstTops kind mode v.left_top y.left_top
  pub right_top : IsSentFirstTops kind mode v.right_top y.right_top

-- all that the walk keeps true up to layer i
pub record IsExact (kind : ℕ → Kind) (mode : Row) (w : ℕ) (y : ℕ → Bed) (i : ℕ) (v : Bed) : Type 0 where
  pub mono : (kind 0).surround < 2 → 2 ≤ (kind i).surround → pos 2 *ℤ v.mono ≡ v.left.two +ℤ v.right.two
  pub left : IsTied (kind 0).surround (kind i).surround mode v.center v.left
  pub right : IsTied (kind 0).surround (kind i).surround mode v.center v.right
  pub left_top : IsTopTied kind i w v.left.surround v.left_top
  pub right_top : IsTopTied kind i w v.right.surround v.right_top
  pub first : IsSentFirst (kind 0) mode v (y 0)
  pub next : (j : ℕ) → j < i → IsSentNext (kind j) (kind (suc j)) mode v (y (suc j))

first_side_sent : (kind : ℕ) (mode : Row) (y : Side) → IsSentFirstSide kind mode (exact_first_side (of mode) y) y
first_side_sent kind mode y = record { two = λ l n. refl; three = λ l n. refl; five = λ l. refl; surround = λ l n. refl; side = λ l. refl; rear = λ l. refl }

first_tops_sent : (kind : Kind) (mode : Row) (y : Tops) → IsSentFirstTops kind mode (exact_first_tops (of mode) y) y
first_tops_sent kind mode y = record { three = λ l n. refl; two = λ l n m. refl; four = λ l. refl; back = λ l. refl }

first_tied : (s : ℕ) (mode : Row) (c : ℤ) (v : Side) → IsTied s s mode c v
first_tied s mode c v = record { three = λ l n. absurd (omega arith); surround = λ l n. absurd (omega arith); rear = λ l n. absurd (omega arith) }

first_tops_tied : (kind : ℕ → Kind) (w : ℕ) (ls : ℤ) (v : Tops) → IsTopTied kind 0 w ls v
first_tops_tied kind w ls v = record {
  three = λ j l a b n. absurd (let e : j ≡ 0 = omega arith in let b' = rw e at b in omega arith);
  two = λ j l a b n. absurd (let e : j ≡ 0 = omega arith in let b' = rw e at b in omega arith);
}

exact_begins : (kind : ℕ → Kind) (mode : Row) (w : ℕ) (y : ℕ → Bed) → IsExact kind mode w y 0 (exact_first (of mode) (y 0))
exact_begins kind mode w y = record {
  mono = λ l n. absurd (omega arith);
  left = first_tied (kind 0).surround mode (y 0).center (exact_first_side (of mode) (y 0).left);
  right = first_tied (kind 0).surround mode (y 0).center (exact_first_side (of mode) (y 0).right);
  left_top = first_tops_tied kind w (exact_first_side (of mode) (y 0).left).surround (exact_first_tops (of mode) (y 0).left_top);
  right_top = first_tops_tied kind w (exact_first_side (of mode) (y 0).right).surround (exact_first_tops (of mode) (y 0).right_top);
  first = record {
    mono = λ l. refl;
    center = λ l. refl;
    low = λ l. refl;
    left = first_side_sent (kind 0).surround mode (y 0).left;
    right = first_side_sent (kind 0).surround mode (y 0).right;
    left_top = first_tops_sent (kind 0) mode (y 0).left_top;
    right_top = first_tops_sent (kind 0) mode (y 0).right_top;
  };
  next = λ j h. absurd (omega arith);
}

-- what a side and its tops keep of the first layer and of a lower one
first_side_stays : (kind before : ℕ) (mode : Row) (c d : ℤ) (v w y : Side) → kind ≤ before → IsKept before c d v w → IsSentFirstSide kind mode v y → IsSentFirstSide kind mode w y
first_side_stays kind before mode c d v w y up q f = record {
  two = λ l n. q.two (omega arith) ∙ f.two l n;
  three = λ l n. q.three (omega arith) ∙ f.three l n;
  five = λ l. q.five (omega arith) ∙ f.five l;
  surround = λ l n. q.surround (omega arith) ∙ f.surround l n;
  side = λ l. q.side (omega arith) ∙ f.side l;
  rear = λ l. q.rear (omega arith) ∙ f.rear l;
}

first_tops_stay : (kind before : Kind) (mode : Row) (v w y : Tops) → kind.surround ≤ before.surround → kind.height ≤ before.height → IsTopKept before v w → IsSentFirstTops kind mode v y → IsSentFirstTops kind mode w y
first_tops_stay kind before mode v w y up climb q f = record {
  three = λ l n. q.three (omega arith) ∙ f.three l n;
  two = λ l n m. q.two (omega arith) (omega arith) ∙ f.two l n m;
  four = λ l. q.four (omega arith) ∙ f.four l;
  back = λ l. q.back (omega arith) ∙ f.back l;
}

next_tops_stay : (one two before : Kind) (mode : Row) (v w y : Tops) → two.surround ≤ before.surround → two.height ≤ before.height → IsTopKept before v w → IsSentNextTops one two mode v y → IsSentNextTops one two mode w y
next_tops_stay one two before mode v w y up climb q f = record {
  three = λ l n m. q.three (omega arith) ∙ f.three l n m;
  two = λ l n m o. q.two (omega arith) (omega arith) ∙ f.two l n m o;
  four = λ l n. q.four (omega arith) ∙ f.four l n;
  back = λ l n. q.back (omega arith) ∙ f.back l n;
}

next_tops_sent : (before now : Kind) (mode : Row) (w : ℕ) (ls : ℤ) (old y : Tops) → IsKind before → IsSentNextTops before now mode (exact_tops_after before now (of mode) w ls old y) y
next_tops_sent before now mode w ls old y k = record {
  three = λ l n m. rw (three_given before now l n m) refl;
  two = λ l n m o. rw (not_left before now k l) (rw (two_given before now l n m o) refl);
  four = λ l n. rw (four_given before now l n) refl;
  back = λ l n. rw (not_split_low before now l) (rw (back_given before now l n) refl);
}

exact_goes_on : (kind : ℕ → Kind) (target : ℕ) (mode : Row) (weight : ℕ) (y : ℕ → Bed) (i : ℕ) (v : Bed) → IsChain kind target → suc i ≤ target → IsExact kind mode weight y i v
    → IsExact kind mode weight y (suc i) (exact_after (kind i) (kind (suc i)) (of mode) weight v (y (suc i)))
exact_goes_on kind target mode weight y i v chain h e =
    let before = kind i in
    let now = kind (suc i) in
    let sent = y (suc i) in
    let w = exact_after before now (of mode) weight v sent in
    let here : IsKind before = chain.kinds i (omega arith) in
    let up : before.surround ≤ now.surround = chain.rises i (omega arith) in
    let from = rises_up kind target chain i 0 (omega arith) (omega arith) in
    let l2 : 2 ≤ before.surround → w.left.two ≡ v.left.two = λ k. rw (not_reached 2 before.surround now.surround k) refl in
    let r2 : 2 ≤ before.surround → w.right.two ≡ v.right.two = λ k. rw (not_reached 2 before.surround now.surround k) refl in
    let c3 : 3 ≤ before.surround → w.center ≡ v.center = λ k. rw (not_reached 3 before.surround now.surround k) refl in
    let f3 : 3 ≤ before.surround → w.low ≡ v.low = λ k. rw (not_reached 3 before.surround now.surround k) refl in
    let left = kept before.surround now.surround mode v.center w.center w.left.two v.left sent.left l2 c3 in
    let right = kept before.surround now.surround mode v.center w.center w.right.two v.right sent.right r2 c3 in
    let left_top = kept_tops before now mode weight w.left.surround v.left_top sent.left_top in
    let right_top = kept_tops before now mode weight w.right.surround v.right_top sent.right_top in
    let f = e.first in
    record {
      mono = λ l n. ⊎_elim
          (λ low. rw (reached 2 before.surround now.surround low n) (omega (arith, ints)))
          (λ high. rw (not_reached 2 before.surround now.surround high) (e.mono l high))
          (cases_lt before.surround 2);
      left = tied_next (kind 0).surround before.surround now.surround mode v.center w.center w.left.two v.left sent.left up e.left l2 c3;
      right = tied_next (kind 0).surround before.surround now.surround mode v.center w.center w.right.two v.right sent.right up e.right r2 c3;
      left_top = tops_tied_next kind target i mode weight v.left.surround w.left.surround v.left_top sent.left_top chain h left.surround e.left_top;
      right_top = tops_tied_next kind target i mode weight v.right.surround w.right.surround v.right_top sent.right_top chain h right.surround e.right_top;
      first = record {
        mono = λ l. f.mono l;
        center = λ l. c3 (omega (arith, from.0)) ∙ f.center l;
        low = λ l. f3 (omega (arith, from.0)) ∙ f.low l;
        left = first_side_stays (kind 0).surround before.surround mode v.center w.center v.left w.left (y 0).left from.0 left f.left;
        right = first_side_stays (kind 0).surround before.surround mode v.center w.center v.right w.right (y 0).right from.0 right f.right;
        left_top = first_tops_stay (kind 0) before mode v.left_top w.left_top (y 0).left_top from.0 from.1 left_top f.left_top;
        right_top = first_tops_stay (kind 0) before mode v.right_top w.right_top (y 0).right_top from.0 from.1 right_top f.right_top;
      };
      next = λ j k. ⊎_elim
          (λ low.
          let p = e.next j low in
          let there = rises_up kind target chain i (suc j) (omega arith) (omega arith) in
          record {
            stereo = λ l n. left.two (omega (arith, there.0)) ∙ p.stereo l n;
            center = λ l n. c3 (omega (arith, there.0)) ∙ p.center l n;
            low = λ l n. f3 (omega (arith, there.0)) ∙ p.low l n;
            left_five = λ l n. left.five (omega (arith, there.0)) ∙ p.left_five l n;
            right_five = λ l n. right.five (omega (arith, there.0)) ∙ p.right_five l n;
            left_side = λ l n. left.side (omega (arith, there.0)) ∙ p.left_side l n;
            right_side = λ l n. right.side (omega (arith, there.0)) ∙ p.right_side l n;
            left_top = next_tops_stay (kind j) (kind (suc j)) before mode v.left_top w.left_top (y (suc j)).left_top there.0 there.1 left_top p.left_top;
            right_top = next_tops_stay (kind j) (kind (suc j)) before mode v.right_top w.right_top (y (suc j)).right_top there.0 there.1 right_top p.right_top;
          })
          (λ high.
          let same : j ≡ i = omega arith in
          rw same (record {
            stereo = λ l n. rw (reached 2 before.surround now.surround l n) refl;
            center = λ l n. rw (reached 3 before.surround now.surround l n) refl;
            low = λ l n. rw (reached 3 before.surround now.surround l n) refl;
            left_five = λ l n. rw (reached 5 before.surround now.surround l n) refl;
            right_five = λ l n. rw (reached 5 before.surround now.surround l n) refl;
            left_side = λ l n. rw (reached 7 before.surround now.surround l n) refl;
            right_side = λ l n. rw (reached 7 before.surround now.surround l n) refl;
            left_top = next_tops_sent before now mode weight w.left.surround v.left_top sent.left_top here;
            right_top = next_tops_sent before now mode weight w.right.surround v.right_top sent.right_top here;
          }))
          (cases_lt j i);
    }

pub exact_is : (kind : ℕ → Kind) (target : ℕ) (mode : Row) (w : ℕ) (y : ℕ → Bed) → IsChain kind target → (i : ℕ) → i ≤ target → IsExact kind mode w y i (exact kind (of mode) w y i)
exact_is kind target mode w y chain zero h = exact_begins kind mode w y
exact_is kind target mode w y chain (suc i) h = exact_goes_on kind target mode w y i (exact kind (of mode) w y i) chain h (exact_is kind target mode w y chain i (omega arith))

pub mono_both : (k : ℕ) (w l r wl wr v y : ℤ) → w ≡ wl +ℤ wr → wl ≡ pos (10000000000 * (10000000 * k)) *ℤ l → wr ≡ pos (10000000000 * (10000000 * k)) *ℤ r → pos 2 *ℤ v ≡ l +ℤ r → v ≡ y
    → pos 100 *ℤ w ≡ pos 2 *ℤ (y *ℤ pos (10000000000000000000 * k))
mono_both k w l r wl wr v y e p q s t =
    let x = ap (λ t. t *ℤ pos k) s in
    let d = distribute l r (pos k) in
    let f = swapped_left v 2 k in
    let u : y *ℤ pos k ≡ v *ℤ pos k = rw t refl in
    omega (arith, ints)

pub mono_one : (k : ℕ) (v y : ℤ) → v ≡ y → pos 100 *ℤ (pos 20000000000 *ℤ (pos (10000000 * k) *ℤ v)) ≡ pos 2 *ℤ (y *ℤ pos (10000000000000000000 * k))
mono_one k v y s = rw s (omega (arith, ints))

pub plain : (k : ℕ) (w v y : ℤ) → w ≡ pos (10000000000 * (10000000 * k)) *ℤ v → v ≡ y → CarriesAs (10000000000000000000 * k) w y
plain k w v y e s = rw e (rw s (omega (arith, ints)))

pub direct : (k : ℕ) (v y : ℤ) → v ≡ y → CarriesAs (10000000000000000000 * k) (pos 10000000000 *ℤ (pos (10000000 * k) *ℤ v)) y
direct k v y s = rw s (omega (arith, ints))

pub thousand : (k : ℕ) (w v y : ℤ) → w ≡ pos (10000000000 * (10000 * k)) *ℤ v → v ≡ pos 1000 *ℤ y → CarriesAs (10000000000000000000 * k) w y
thousand k w v y e s = rw e (rw s (let f = factors (10000000000 * (10000 * k)) 1000 y in omega (arith, ints)))

pub seven : (k : ℕ) (w v y : ℤ) → w ≡ pos (10000000000 * k) *ℤ v → v ≡ pos 10000000 *ℤ y → CarriesAs (10000000000000000000 * k) w y
seven k w v y e s = rw e (rw s (let f = factors (10000000000 * k) 10000000 y in omega (arith, ints)))

pub back : (mode : Row) (w v y : ℤ) → w ≡ pos (10000000 * (10000000000 * (beta_of mode * gamma_of mode))) *ℤ v → v ≡ pos (delta_of mode) *ℤ y → CarriesAs (bottom_of (of mode)) w y
back Zero w v y e s = rw e (rw s (omega (arith, ints)))
back One w v y e s = rw e (rw s (omega (arith, ints)))
back Two w v y e s = rw e (rw s (omega (arith, ints)))

pub last : (mode : Row) (v y : ℤ) → v ≡ pos (delta_of mode * beta_of mode) *ℤ y → CarriesAs (bottom_of (of mode)) (pos 10000000000 *ℤ (pos (10000000 * gamma_of mode) *ℤ v)) y
last Zero v y s = rw s (omega (arith, ints))
last One v y s = rw s (omega (arith, ints))
last Two v y s = rw s (omega (arith, ints))

pub top_back : (mode : Row) (v y : ℤ) → v ≡ pos (10000 * gamma_of mode) *ℤ y → CarriesAs (bottom_of (of mode)) (pos 10000000000 *ℤ (pos (1000 * (beta_of mode * delta_of mode)) *ℤ v)) y
top_back Zero v y s = rw s (omega (arith, ints))
top_back One v y s = rw s (omega (arith, ints))
top_back Two v y s = rw s (omega (arith, ints))

pub some_bottom : (mode : Row) → 0 < bottom_of (of mode)
some_bottom Zero = omega arith
some_bottom One = omega arith
some_bottom Two = omega arith
