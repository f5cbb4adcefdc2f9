use Rattle.std.proofs.Common.{arith, ◌≡◌, ◌<◌, ◌≤◌, ℕ, zero, suc, ℤ, pos, ◌+ℤ◌, ◌-ℤ◌, ◌*ℤ◌, ◌*◌, ◌+◌, ◌-◌, ap, refl, sym, ◌∙◌}
use Rattle.std.proofs.lemmas.Int.{ints}
use Rattle.spec_demix.proofs.Errors.{chain_held}
use Rattle.spec_demix.proofs.FloorLemmas.{distribute, swapped, swapped_left, spread, passes}
use Rattle.spec_demix.proofs.Joined.{side_down_joined, tops_down_joined}
use Rattle.spec_demix.proofs.Joins.{IsJoined, IsTopJoined}
use Rattle.spec_demix.proofs.KindFits.{CarriesAs, CarriesFirstSide, CarriesFirstTops, CarriesNextTops, FitsKinds, IsChain}
use Rattle.spec_demix.proofs.Near.{Near, IsHeld, IsStep, IsTopHeld, IsTopStep, IsBedHeld}
use Rattle.spec_demix.specs.Downmix.{Channels, down, back_of}
use Rattle.spec_demix.specs.declared.Bed.{Bed}
use Rattle.spec_demix.specs.declared.Kind.{Kind}
use Rattle.spec_demix.specs.declared.Side.{Side}
use Rattle.spec_demix.specs.declared.Tops.{Tops}
use Rattle.spec_gains.proofs.ModeLemmas.{Row, alpha_of, beta_of, gamma_of, delta_of, of}

-- ---- the difference of two lists that fit

-- b times one, less a times the other
abbrev pub cross : ℕ → ℕ → ℤ → ℤ → ℤ
cross a b v w = v *ℤ pos b -ℤ w *ℤ pos a

abbrev pub cross_side : ℕ → ℕ → Side → Side → Side
cross_side a b v w = record {
  two = cross a b v.two w.two;
  three = cross a b v.three w.three;
  five = cross a b v.five w.five;
  surround = cross a b v.surround w.surround;
  side = cross a b v.side w.side;
  rear = cross a b v.rear w.rear;
}

abbrev pub cross_tops : ℕ → ℕ → Tops → Tops → Tops
cross_tops a b v w = record {
  three = cross a b v.three w.three;
  two = cross a b v.two w.two;
  four = cross a b v.four w.four;
  back = cross a b v.back w.back;
}

abbrev pub cross_bed : ℕ → ℕ → Bed → Bed → Bed
cross_bed a b v w = record {
  mono = cross a b v.mono w.mono;
  center = cross a b v.center w.center;
  low = cross a b v.low w.low;
  left = cross_side a b v.left w.left;
  right = cross_side a b v.right w.right;
  left_top = cross_tops a b v.left_top w.left_top;
  right_top = cross_tops a b v.right_top w.right_top;
}

-- an equation of three terms, times b
times : (k l m : ℕ) (x y z : ℤ) (b : ℕ) → pos k *ℤ x ≡ pos l *ℤ y +ℤ pos m *ℤ z → pos k *ℤ (x *ℤ pos b) ≡ pos l *ℤ (y *ℤ pos b) +ℤ pos m *ℤ (z *ℤ pos b)
times k l m x y z b e =
    sym (swapped_left x k b) ∙ ap (λ t. t *ℤ pos b) e ∙ distribute (pos l *ℤ y) (pos m *ℤ z) (pos b) ∙ ap (λ t. t +ℤ (pos m *ℤ z) *ℤ pos b) (swapped_left y l b) ∙ ap (λ t. pos l *ℤ (y *ℤ pos b) +ℤ t) (swapped_left z m b)

crossed_sum : (k l m a b : ℕ) (t x z t' x' z' : ℤ) → pos k *ℤ t ≡ pos l *ℤ x +ℤ pos m *ℤ z → pos k *ℤ t' ≡ pos l *ℤ x' +ℤ pos m *ℤ z'
    → pos k *ℤ cross a b t t' ≡ pos l *ℤ cross a b x x' +ℤ pos m *ℤ cross a b z z'
crossed_sum k l m a b t x z t' x' z' e f =
    let g = times k l m t x z b e in
    let h = times k l m t' x' z' a f in
    let p = spread k (t *ℤ pos b) (t' *ℤ pos a) in
    let q = spread l (x *ℤ pos b) (x' *ℤ pos a) in
    let r = spread m (z *ℤ pos b) (z' *ℤ pos a) in
    omega (arith, ints)

-- the difference is joined as the two are
crossed_joined : (kind : ℕ) (mode : Row) (a b : ℕ) (c d : ℤ) (v w : Side) → IsJoined kind mode c v → IsJoined kind mode d w → IsJoined kind mode (cross a b c d) (cross_side a b v w)
crossed_joined kind mode a b c d v w j k = record {
  two = λ h. crossed_sum 1000 1000 707 a b v.two v.three c w.two w.three d (j.two h) (k.two h);
  three = λ h. crossed_sum 1000 1000 (delta_of mode) a b v.three v.five v.surround w.three w.five w.surround (j.three h) (k.three h);
  surround = λ h. crossed_sum 1000 (alpha_of mode) (beta_of mode) a b v.surround v.side v.rear w.surround w.side w.rear (j.surround h) (k.surround h);
}

crossed_tops_joined : (kind : Kind) (mode : Row) (w a b : ℕ) (ls ls' : ℤ) (v v' : Tops) → IsTopJoined kind mode w ls v → IsTopJoined kind mode w ls' v' → IsTopJoined kind mode w (cross a b ls ls') (cross_tops a b v v')
crossed_tops_joined kind mode w a b ls ls' v v' j k = record {
  three = λ h. crossed_sum 10000000 10000000 (w * delta_of mode) a b v.three v.two ls v'.three v'.two ls' (j.three h) (k.three h);
  two = λ h. crossed_sum 1000 1000 (gamma_of mode) a b v.two v.four v.back v'.two v'.four v'.back (j.two h) (k.two h);
}

-- two that carry one sample agree
agree : (a b : ℕ) (v w y : ℤ) → CarriesAs a v y → CarriesAs b w y → cross a b v w ≡ pos 0
agree a b v w y p q =
    let e = ap (λ t. t *ℤ pos b) p in
    let f = ap (λ t. t *ℤ pos a) q in
    let g = swapped_left v 100 b in
    let h = swapped_left w 100 a in
    let s = swapped y a b in
    omega (arith, ints)

pub joined_below : (now kind : ℕ) (mode : Row) (c : ℤ) (v : Side) → now ≤ kind → IsJoined kind mode c v → IsJoined now mode c v
joined_below now kind mode c v up j = record {
  two = λ h. j.two (omega arith);
  three = λ h. j.three (omega arith);
  surround = λ h. j.surround (omega arith);
}

zero_near : (k : ℕ) (z : ℤ) → z ≡ pos 0 → Near k 0 z
zero_near k z e = omega (arith, ints)

split_by_nothing : (k : ℕ) (two four back : ℤ) → pos 1000 *ℤ two ≡ pos 1000 *ℤ four +ℤ pos k *ℤ back → Near k 0 (pos k *ℤ back -ℤ pos 1000 *ℤ two +ℤ pos 1000 *ℤ four)
split_by_nothing k two four back e = zero_near k (pos k *ℤ back -ℤ pos 1000 *ℤ two +ℤ pos 1000 *ℤ four) (omega (arith, ints))

-- a side that is joined and carries nothing makes a step from itself to itself with no error
joined_step : (before now : ℕ) (mode : Row) (c : ℤ) (e : Side) → IsJoined now mode c e → (before < 3 → 3 ≤ now → c ≡ pos 0) → (before < 5 → 5 ≤ now → e.five ≡ pos 0)
    → (before < 7 → 7 ≤ now → e.side ≡ pos 0) → (before < 2 → 2 ≤ now → Near 3 0 e.two) → IsStep before now mode 0 c e e
joined_step before now mode c e j center five side two = record {
  two_kept = λ h. refl;
  two = two;
  three_kept = λ h. refl;
  three = λ l n. let x = j.two n in omega (arith, ints);
  given = λ l n. zero_near 1 c (center l n);
  five_kept = λ h. refl;
  five = λ l n. zero_near 1 e.five (five l n);
  surround_kept = λ h. refl;
  surround = λ l n. split_by_nothing (delta_of mode) e.three e.five e.surround (j.three n);
  side_kept = λ h. refl;
  side = λ l n. zero_near 1 e.side (side l n);
  rear_kept = λ h. refl;
  rear = λ l n. let x = j.surround n in zero_near (beta_of mode) (pos (beta_of mode) *ℤ e.rear -ℤ pos 1000 *ℤ e.surround +ℤ pos (alpha_of mode) *ℤ e.side) (omega (arith, ints));
}

pub tops_joined_below : (now kind : Kind) (mode : Row) (w : ℕ) (ls : ℤ) (v : Tops) → now.surround ≤ kind.surround → now.height ≤ kind.height → IsTopJoined kind mode w ls v → IsTopJoined now mode w ls v
tops_joined_below now kind mode w ls v up climb j = record { three = λ h. j.three (omega arith); two = λ h. j.two (omega arith) }

left_by_nothing : (k : ℕ) (two three ls : ℤ) → pos 10000000 *ℤ three ≡ pos 10000000 *ℤ two +ℤ pos k *ℤ ls → Near 10000000 0 (pos 10000000 *ℤ two -ℤ pos 10000000 *ℤ three +ℤ pos k *ℤ ls)
left_by_nothing k two three ls e = omega (arith, ints)

-- two lists that fit carry the same tops
agree_tops : (before now : Kind) (a b : ℕ) (v w y : Tops) → CarriesNextTops before now a v y → CarriesNextTops before now b w y → (mode : Row) (weight : ℕ) (ls : ℤ) → IsTopJoined now mode weight ls (cross_tops a b v w)
    → IsTopStep before now mode weight 0 ls (cross_tops a b v w) (cross_tops a b v w)
agree_tops before now a b v w y p q mode weight ls j =
    let e = cross_tops a b v w in
    record {
      three_kept = λ h. refl;
      three = λ l n m. zero_near 1 e.three (agree a b v.three w.three y.three (p.three l n m) (q.three l n m));
      two_kept = λ l h. refl;
      two = λ l n m o. zero_near 7 e.two (agree a b v.two w.two y.two (p.two l n m o) (q.two l n m o));
      two_left = λ l m n. left_by_nothing (weight * delta_of mode) e.two e.three ls (j.three n);
      four_kept = λ h. refl;
      four = λ l n. zero_near 1 e.four (agree a b v.four w.four y.four (p.four l n) (q.four l n));
      back_kept = λ h. refl;
      back = λ l n. zero_near 13 e.back (agree a b v.back w.back y.back (p.back l n) (q.back l n));
      back_split = λ l m n. split_by_nothing (gamma_of mode) e.two e.four e.back (j.two n);
    }

first_tops : (kind : Kind) (a b : ℕ) (v w y : Tops) → CarriesFirstTops kind a v y → CarriesFirstTops kind b w y → IsTopHeld kind 0 (cross_tops a b v w)
first_tops kind a b v w y p q = record {
  three = λ l n. zero_near 1 (cross a b v.three w.three) (agree a b v.three w.three y.three (p.three l n) (q.three l n));
  two = λ l m n. zero_near 7 (cross a b v.two w.two) (agree a b v.two w.two y.two (p.two l m n) (q.two l m n));
  four = λ l. zero_near 1 (cross a b v.four w.four) (agree a b v.four w.four y.four (p.four l) (q.four l));
  back = λ l. zero_near 13 (cross a b v.back w.back) (agree a b v.back w.back y.back (p.back l) (q.back l));
}

pub mono_down : (kind : Kind) (mode : Row) (w : ℕ) (x : Channels) → 2 ≤ kind.surround → (down kind (of mode) w x).mono ≡ (down kind (of mode) w x).left.two +ℤ (down kind (of mode) w x).right.two
mono_down kind mode w x h = rw (passes 2 kind.surround h) refl

cross_sum : (a b : ℕ) (m l r m' l' r' : ℤ) → m ≡ l +ℤ r → m' ≡ l' +ℤ r' → cross a b r r' ≡ cross a b m m' -ℤ cross a b l l'
cross_sum a b m l r m' l' r' p q =
    let e = ap (λ t. t *ℤ pos b) p ∙ distribute l r (pos b) in
    let f = ap (λ t. t *ℤ pos a) q ∙ distribute l' r' (pos a) in
    omega (arith, ints)

-- the kinds along a chain
pub rises_to : (kind : ℕ → Kind) (target : ℕ) → IsChain kind target → (d j : ℕ) → j + d ≤ target → ((kind j).surround ≤ (kind (j + d)).surround) × ((kind j).height ≤ (kind (j + d)).height)
rises_to kind target chain zero j e = let s : j + 0 ≡ j = omega arith in rw s (omega arith, omega arith)
rises_to kind target chain (suc d) j e =
    let rest = rises_to kind target chain d j (omega arith) in
    let s : j + suc d ≡ suc (j + d) = omega arith in
    let up = chain.rises (j + d) (omega arith) in
    let climb = chain.climbs (j + d) (omega arith) in
    rw s (omega (arith, rest.0, up), omega (arith, rest.1, climb))

pub rises_up : (kind : ℕ → Kind) (target : ℕ) → IsChain kind target → (i j : ℕ) → j ≤ i → i ≤ target → ((kind j).surround ≤ (kind i).surround) × ((kind j).height ≤ (kind i).height)
rises_up kind target chain i j h k =
    let r = rises_to kind target chain (i - j) j (omega arith) in
    let e : j + (i - j) ≡ i = omega arith in
    rw e at r

agree_mono : (a b : ℕ) (v w y : ℤ) → pos 100 *ℤ v ≡ pos 2 *ℤ (y *ℤ pos a) → pos 100 *ℤ w ≡ pos 2 *ℤ (y *ℤ pos b) → cross a b v w ≡ pos 0
agree_mono a b v w y p q =
    let e = ap (λ t. t *ℤ pos b) p in
    let f = ap (λ t. t *ℤ pos a) q in
    let g = swapped_left v 100 b in
    let h = swapped_left w 100 a in
    let k = swapped_left (y *ℤ pos a) 2 b in
    let l = swapped_left (y *ℤ pos b) 2 a in
    let s = swapped y a b in
    omega (arith, ints)

first_side : (kind a b : ℕ) (v w y : Side) → CarriesFirstSide kind a v y → CarriesFirstSide kind b w y → IsHeld kind 0 (cross_side a b v w)
first_side kind a b v w y p q = record {
  two = λ l n. zero_near 3 (cross a b v.two w.two) (agree a b v.two w.two y.two (p.two l n) (q.two l n));
  three = λ l n. zero_near 5 (cross a b v.three w.three) (agree a b v.three w.three y.three (p.three l n) (q.three l n));
  five = λ l. zero_near 1 (cross a b v.five w.five) (agree a b v.five w.five y.five (p.five l) (q.five l));
  surround = λ l n. zero_near 10 (cross a b v.surround w.surround) (agree a b v.surround w.surround y.surround (p.surround l n) (q.surround l n));
  side = λ l. zero_near 1 (cross a b v.side w.side) (agree a b v.side w.side y.side (p.side l) (q.side l));
  rear = λ l. zero_near 17 (cross a b v.rear w.rear) (agree a b v.rear w.rear y.rear (p.rear l) (q.rear l));
}

-- two lists that fit differ by nothing
pub fits_agree : (kind : ℕ → Kind) (target : ℕ) (mode : Row) (weight : ℕ) (y : ℕ → Bed) (a b : ℕ) (x x' : Channels) → IsChain kind target → weight ≤ 5000 → FitsKinds kind target mode weight y a x → FitsKinds kind target mode weight y b x'
    → IsBedHeld (kind target) 0 (cross_bed a b (down (kind target) (of mode) weight x) (down (kind target) (of mode) weight x'))
fits_agree kind target mode weight y a b x x' chain small f g =
    let k = kind target in
    let v = down k (of mode) weight x in
    let w = down k (of mode) weight x' in
    let e = cross_bed a b v w in
    let left = crossed_joined k.surround mode a b v.center w.center v.left w.left (side_down_joined k.surround mode x.center x.left) (side_down_joined k.surround mode x'.center x'.left) in
    let right = crossed_joined k.surround mode a b v.center w.center v.right w.right (side_down_joined k.surround mode x.center x.right) (side_down_joined k.surround mode x'.center x'.right) in
    let left_top = crossed_tops_joined k mode weight a b v.left.surround w.left.surround v.left_top w.left_top
    (tops_down_joined k mode weight (back_of k.surround (of mode) x.left) x.left.top x.left.top_back) (tops_down_joined k mode weight (back_of k.surround (of mode) x'.left) x'.left.top x'.left.top_back) in
    let right_top = crossed_tops_joined k mode weight a b v.right.surround w.right.surround v.right_top w.right_top
    (tops_down_joined k mode weight (back_of k.surround (of mode) x.right) x.right.top x.right.top_back) (tops_down_joined k mode weight (back_of k.surround (of mode) x'.right) x'.right.top x'.right.top_back) in
    chain_held kind target mode weight 0 (λ i. e) chain small
    (record {
      mono = λ l. zero_near 2 e.mono (agree_mono a b v.mono w.mono (y 0).mono (f.first.mono l) (g.first.mono l));
      center = λ l. zero_near 1 e.center (agree a b v.center w.center (y 0).center (f.first.center l) (g.first.center l));
      low = λ l. zero_near 1 e.low (agree a b v.low w.low (y 0).low (f.first.low l) (g.first.low l));
      left = first_side (kind 0).surround a b v.left w.left (y 0).left f.first.left g.first.left;
      right = first_side (kind 0).surround a b v.right w.right (y 0).right f.first.right g.first.right;
      left_top = first_tops (kind 0) a b v.left_top w.left_top (y 0).left_top f.first.left_top g.first.left_top;
      right_top = first_tops (kind 0) a b v.right_top w.right_top (y 0).right_top f.first.right_top g.first.right_top;
    })
    (λ j h. let p = f.next j h in let q = g.next j h in let up = rises_up kind target chain target (suc j) (omega arith) (omega arith) in
    let before = (kind j).surround in let now = (kind (suc j)).surround in
    record {
      center_kept = λ k. refl;
      low_kept = λ k. refl;
      low = λ l n. zero_near 1 e.low (agree a b v.low w.low (y (suc j)).low (p.low l n) (q.low l n));
      stereo = λ l n. zero_near 1 e.left.two (agree a b v.left.two w.left.two (y (suc j)).left.two (p.stereo l n) (q.stereo l n));
      other = λ l n. let two : 2 ≤ (kind target).surround = omega (arith, up.0) in
          cross_sum a b v.mono v.left.two v.right.two w.mono w.left.two w.right.two (mono_down (kind target) mode weight x two) (mono_down (kind target) mode weight x' two);
      mono_kept = λ l. refl;
      left = λ two. joined_step before now mode e.center e.left (joined_below now (kind target).surround mode e.center e.left up.0 left)
          (λ l n. agree a b v.center w.center (y (suc j)).center (p.center l n) (q.center l n))
          (λ l n. agree a b v.left.five w.left.five (y (suc j)).left.five (p.left.five l n) (q.left.five l n))
          (λ l n. agree a b v.left.side w.left.side (y (suc j)).left.side (p.left.side l n) (q.left.side l n)) two;
      right = λ two. joined_step before now mode e.center e.right (joined_below now (kind target).surround mode e.center e.right up.0 right)
          (λ l n. agree a b v.center w.center (y (suc j)).center (p.center l n) (q.center l n))
          (λ l n. agree a b v.right.five w.right.five (y (suc j)).right.five (p.right.five l n) (q.right.five l n))
          (λ l n. agree a b v.right.side w.right.side (y (suc j)).right.side (p.right.side l n) (q.right.side l n)) two;
      left_top = agree_tops (kind j) (kind (suc j)) a b v.left_top w.left_top (y (suc j)).left_top p.left_top q.left_top mode weight e.left.surround
          (tops_joined_below (kind (suc j)) (kind target) mode weight e.left.surround e.left_top up.0 up.1 left_top);
      right_top = agree_tops (kind j) (kind (suc j)) a b v.right_top w.right_top (y (suc j)).right_top p.right_top q.right_top mode weight e.right.surround
          (tops_joined_below (kind (suc j)) (kind target) mode weight e.right.surround e.right_top up.0 up.1 right_top);
    })
    target (omega arith)

-- each channel of the target is then the same fraction
pub ten : (a b : ℕ) (v w : ℤ) (k : ℕ) → Near k 0 (cross a b (pos 10000000000 *ℤ v) (pos 10000000000 *ℤ w)) → v *ℤ pos b ≡ w *ℤ pos a
ten a b v w k n = let g = swapped_left v 10000000000 b in let h = swapped_left w 10000000000 a in omega (arith, ints)
