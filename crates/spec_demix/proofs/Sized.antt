use Rattle.std.proofs.Common.{arith, ◌≡◌, ◌≢◌, ◌<◌, ◌≤◌, ℕ, zero, suc, ℤ, pos, ◌+ℤ◌, ◌-ℤ◌, ◌*ℤ◌, ◌*◌, ◌^◌, ap, refl, unsigned_abs, slice_index_or}
use Rattle.std.specs.Prelude.{All, List, [], ◌∷◌}
use Rattle.std.proofs.lemmas.List.Elements.{All-cons, All-nil}
use Rattle.std.proofs.lemmas.Int.{ints, unsigned_abs-mul}
use Rattle.std.proofs.lemmas.Bool.{cases_lt}
use Rattle.std.proofs.Math.Logic.{⊎_elim}
use Rattle.std.proofs.Math.Nat.{mul-le-mul, mul-le-mul_right}
use Rattle.spec_layouts.specs.declared.Layout.{Layout}
use Rattle.spec_layouts.specs.declared.Layout.TheVariants.{Mono, Stereo, L51, L512, L514, L71, L712, L714, L312, Binaural}
use Rattle.spec_layouts.specs.declared.Channel.{Channel}
use Rattle.spec_layouts.specs.Layouts.{channels}
use Rattle.spec_demix.proofs.Agreement.{rises_up, mono_down, joined_below, tops_joined_below}
use Rattle.spec_demix.proofs.Channels.{fixed_is_near}
use Rattle.spec_demix.proofs.Errors.{delta_small, wide_of}
use Rattle.spec_demix.proofs.ExactFits.{exact_fits}
use Rattle.spec_demix.proofs.Joined.{side_down_joined, tops_down_joined}
use Rattle.spec_demix.proofs.Joins.{IsJoined, IsTopJoined}
use Rattle.spec_demix.proofs.KindFits.{IsKind, CarriesAs, CarriesFirstSide, CarriesFirstTops, CarriesNextTops, FitsKinds, IsChain}
use Rattle.spec_demix.proofs.KindLaws.{IsPlain, IsGained, IsSmallSide, IsSmallTops, IsSmallBed, KindFittingIsSmall, KindFixedIsSmall}
use Rattle.spec_demix.proofs.Near.{Near}
use Rattle.spec_demix.specs.Downmix.{Channels, down, back_of}
use Rattle.spec_demix.specs.ExactWalk.{exact, exact_channels, bottom_of}
use Rattle.spec_demix.specs.FixedWalk.{fixed}
use Rattle.spec_demix.specs.Floor.{unit}
use Rattle.spec_demix.specs.Kinds.{kind_of}
use Rattle.spec_demix.specs.Values.{channel_of, value_of}
use Rattle.spec_demix.specs.declared.Bed.{Bed}
use Rattle.spec_demix.specs.declared.Kind.{Kind}
use Rattle.spec_demix.specs.declared.Side.{Side}
use Rattle.spec_demix.specs.declared.Tops.{Tops}
use Rattle.spec_gains.proofs.ModeLemmas.{Row, Zero, One, Two, alpha_of, beta_of, gamma_of, delta_of, of}

-- the sizes of one side's downmixes, in hundredths of the largest sample
record IsSizedSide (kind n : ℕ) (v : Side) : Type 0 where
  two : 2 ≤ kind → kind < 3 → Near 11946 n v.two
  three : 3 ≤ kind → kind < 5 → Near 12017 n v.three
  five : 5 ≤ kind → Near 100 n v.five
  surround : 5 ≤ kind → kind < 7 → Near 17139 n v.surround
  side : 7 ≤ kind → Near 100 n v.side
  rear : 7 ≤ kind → Near 24342 n v.rear

record IsSizedTops (kind : Kind) (n : ℕ) (v : Tops) : Type 0 where
  three : 2 ≤ kind.height → kind.surround < 5 → Near 3982 n v.three
  two : 2 ≤ kind.height → kind.height < 4 → 5 ≤ kind.surround → Near 11404 n v.two
  four : 4 ≤ kind.height → Near 3982 n v.four
  back : 4 ≤ kind.height → Near 21763 n v.back

record IsSized (kind : Kind) (n : ℕ) (v : Bed) : Type 0 where
  mono : kind.surround < 2 → Near 7964 n v.mono
  center : 3 ≤ kind.surround → Near 100 n v.center
  low : 3 ≤ kind.surround → Near 100 n v.low
  left : IsSizedSide kind.surround n v.left
  right : IsSizedSide kind.surround n v.right
  left_top : IsSizedTops kind n v.left_top
  right_top : IsSizedTops kind n v.right_top

sized_three : (n : ℕ) (two three center : ℤ) → Near 11946 n two → Near 100 n center → pos 1000 *ℤ two ≡ pos 1000 *ℤ three +ℤ pos 707 *ℤ center → Near 12017 n three
sized_three n two three center a b e = omega (arith, ints)

sized_surround : (mode : Row) (n : ℕ) (three five surround : ℤ) → Near 12017 n three → Near 100 n five → pos 1000 *ℤ three ≡ pos 1000 *ℤ five +ℤ pos (delta_of mode) *ℤ surround → Near 17139 n surround
sized_surround Zero n three five surround a b e = omega (arith, ints)
sized_surround One n three five surround a b e = omega (arith, ints)
sized_surround Two n three five surround a b e = omega (arith, ints)

sized_rear : (mode : Row) (n : ℕ) (surround side rear : ℤ) → Near 17139 n surround → Near 100 n side → pos 1000 *ℤ surround ≡ pos (alpha_of mode) *ℤ side +ℤ pos (beta_of mode) *ℤ rear → Near 24342 n rear
sized_rear Zero n surround side rear a b e = omega (arith, ints)
sized_rear One n surround side rear a b e = omega (arith, ints)
sized_rear Two n surround side rear a b e = omega (arith, ints)

sized_left : (n : ℕ) (two three t : ℤ) → unsigned_abs t ≤ (5000 * 866) * (17139 * n) → Near 3982 n three → pos 10000000 *ℤ three ≡ pos 10000000 *ℤ two +ℤ t → Near 11404 n two
sized_left n two three t p a e = omega (arith, ints)

sized_two : (mode : Row) (n w : ℕ) (two three ls : ℤ) → w ≤ 5000 → Near 3982 n three → Near 17139 n ls → pos 10000000 *ℤ three ≡ pos 10000000 *ℤ two +ℤ pos (w * delta_of mode) *ℤ ls → Near 11404 n two
sized_two mode n w two three ls small a b e =
    let k : w * delta_of mode ≤ 5000 * 866 = mul-le-mul small (delta_small mode) in
    let p : unsigned_abs (pos (w * delta_of mode) *ℤ ls) ≤ (5000 * 866) * (17139 * n) = rw unsigned_abs-mul (mul-le-mul k b) in
    sized_left n two three (pos (w * delta_of mode) *ℤ ls) p a e

sized_back : (mode : Row) (n : ℕ) (two four back : ℤ) → Near 11404 n two → Near 3982 n four → pos 1000 *ℤ two ≡ pos 1000 *ℤ four +ℤ pos (gamma_of mode) *ℤ back → Near 21763 n back
sized_back Zero n two four back a b e = omega (arith, ints)
sized_back One n two four back a b e = omega (arith, ints)
sized_back Two n two four back a b e = omega (arith, ints)

-- what is carried
of_plain : (bottom : ℕ) (w y : ℤ) → CarriesAs bottom w y → IsPlain y → Near 100 (2 ^ 31 * 100000000 * bottom) w
of_plain bottom w y c s =
    let e : unsigned_abs (pos 100 *ℤ w) ≡ unsigned_abs (y *ℤ pos bottom) = ap unsigned_abs c in
    let f : unsigned_abs (y *ℤ pos bottom) ≤ (2 ^ 31 * 1000000000000) * bottom = rw unsigned_abs-mul (mul-le-mul_right bottom s) in
    omega (arith, ints)

of_gained : (bottom : ℕ) (w y : ℤ) → CarriesAs bottom w y → IsGained y → Near 3982 (2 ^ 31 * 100000000 * bottom) w
of_gained bottom w y c s =
    let e : unsigned_abs (pos 100 *ℤ w) ≡ unsigned_abs (y *ℤ pos bottom) = ap unsigned_abs c in
    let f : unsigned_abs (y *ℤ pos bottom) ≤ (2 ^ 31 * 39810717055340) * bottom = rw unsigned_abs-mul (mul-le-mul_right bottom s) in
    omega (arith, ints)

of_mono : (bottom : ℕ) (w y : ℤ) → pos 100 *ℤ w ≡ pos 2 *ℤ (y *ℤ pos bottom) → IsGained y → Near 7964 (2 ^ 31 * 100000000 * bottom) w
of_mono bottom w y c s =
    let f : unsigned_abs (y *ℤ pos bottom) ≤ (2 ^ 31 * 39810717055340) * bottom = rw unsigned_abs-mul (mul-le-mul_right bottom s) in
    omega (arith, ints)

larger : (k m n : ℕ) (z : ℤ) → k ≤ m → Near k n z → Near m n z
larger k m n z h e = let p = mul-le-mul_right n h in omega (arith, p)

first_side_sized : (kind bottom : ℕ) (v y : Side) → IsSmallSide y → CarriesFirstSide kind bottom v y → IsSizedSide kind (2 ^ 31 * 100000000 * bottom) v
first_side_sized kind bottom v y s p = record {
  two = λ l m. larger 3982 11946 (2 ^ 31 * 100000000 * bottom) v.two (omega arith) (of_gained bottom v.two y.two (p.two l m) s.two);
  three = λ l m. larger 3982 12017 (2 ^ 31 * 100000000 * bottom) v.three (omega arith) (of_gained bottom v.three y.three (p.three l m) s.three);
  five = λ l. of_plain bottom v.five y.five (p.five l) s.five;
  surround = λ l m. larger 3982 17139 (2 ^ 31 * 100000000 * bottom) v.surround (omega arith) (of_gained bottom v.surround y.surround (p.surround l m) s.surround);
  side = λ l. of_plain bottom v.side y.side (p.side l) s.side;
  rear = λ l. larger 100 24342 (2 ^ 31 * 100000000 * bottom) v.rear (omega arith) (of_plain bottom v.rear y.rear (p.rear l) s.rear);
}

first_tops_sized : (kind : Kind) (bottom : ℕ) (v y : Tops) → IsSmallTops y → CarriesFirstTops kind bottom v y → IsSizedTops kind (2 ^ 31 * 100000000 * bottom) v
first_tops_sized kind bottom v y s p = record {
  three = λ l m. of_gained bottom v.three y.three (p.three l m) s.three;
  two = λ l m o. larger 3982 11404 (2 ^ 31 * 100000000 * bottom) v.two (omega arith) (of_gained bottom v.two y.two (p.two l m o) s.two);
  four = λ l. of_gained bottom v.four y.four (p.four l) s.four;
  back = λ l. larger 100 21763 (2 ^ 31 * 100000000 * bottom) v.back (omega arith) (of_plain bottom v.back y.back (p.back l) s.back);
}

-- one side keeps its sizes over a layer
three_sized : (before now n : ℕ) (mode : Row) (c : ℤ) (v : Side) → IsSizedSide before n v → IsJoined now mode c v → (before < 3 → 3 ≤ now → Near 100 n c) → (before < 2 → 2 ≤ now → Near 11946 n v.two) → before < 5 → 3 ≤ now → Near 12017 n v.three
three_sized before now n mode c v h j center two b m =
    ⊎_elim
    (λ low. sized_three n v.two v.three c (⊎_elim (λ mono. two mono (omega arith)) (λ some. h.two some low) (cases_lt before 2)) (center low m) (j.two m))
    (λ high. h.three high b)
    (cases_lt before 3)

surround_sized : (before now n : ℕ) (mode : Row) (c : ℤ) (v : Side) → IsSizedSide before n v → IsJoined now mode c v → (before < 3 → 3 ≤ now → Near 100 n c) → (before < 2 → 2 ≤ now → Near 11946 n v.two) → (before < 5 → 5 ≤ now → Near 100 n v.five) → before < 7 → 5 ≤ now → Near 17139 n v.surround
surround_sized before now n mode c v h j center two five b m =
    ⊎_elim
    (λ low. sized_surround mode n v.three v.five v.surround (three_sized before now n mode c v h j center two low (omega arith)) (five low m) (j.three m))
    (λ high. h.surround high b)
    (cases_lt before 5)

side_sized : (before now n : ℕ) (mode : Row) (c : ℤ) (v : Side) → before ≤ now → IsSizedSide before n v → IsJoined now mode c v → (before < 3 → 3 ≤ now → Near 100 n c) → (before < 2 → 2 ≤ now → Near 11946 n v.two) → (before < 5 → 5 ≤ now → Near 100 n v.five) → (before < 7 → 7 ≤ now → Near 100 n v.side)
    → IsSizedSide now n v
side_sized before now n mode c v up h j center two five side = record {
  two = λ l m. ⊎_elim (λ low. two low l) (λ high. h.two high (omega arith)) (cases_lt before 2);
  three = λ l m. three_sized before now n mode c v h j center two (omega arith) l;
  five = λ l. ⊎_elim (λ low. five low l) (λ high. h.five high) (cases_lt before 5);
  surround = λ l m. surround_sized before now n mode c v h j center two five (omega arith) l;
  side = λ l. ⊎_elim (λ low. side low l) (λ high. h.side high) (cases_lt before 7);
  rear = λ l. ⊎_elim
      (λ low. sized_rear mode n v.surround v.side v.rear (surround_sized before now n mode c v h j center two five low (omega arith)) (side low l) (j.surround l))
      (λ high. h.rear high)
      (cases_lt before 7);
}

top_two_sized : (before now : Kind) (mode : Row) (w n : ℕ) (ls : ℤ) (v : Tops) → IsKind before → w ≤ 5000 → IsSizedTops before n v → IsTopJoined now mode w ls v → (before.surround < 5 → Near 17139 n ls) → 2 ≤ before.height → before.height < 4 → 5 ≤ now.surround → Near 11404 n v.two
top_two_sized before now mode w n ls v k small h j near some few up =
    ⊎_elim
    (λ low. sized_two mode n w v.two v.three ls small (h.three some low) (near low) (j.three up))
    (λ high. h.two some few high)
    (cases_lt before.surround 5)

tops_sized : (before now : Kind) (mode : Row) (w n bottom : ℕ) (ls : ℤ) (v y : Tops) → n ≡ 2 ^ 31 * 100000000 * bottom → IsKind before → IsKind now → before.surround ≤ now.surround → before.height ≤ now.height → w ≤ 5000 → IsSizedTops before n v → IsTopJoined now mode w ls v
    → (before.surround < 5 → 5 ≤ now.surround → Near 17139 n ls) → IsSmallTops y → CarriesNextTops before now bottom v y → IsSizedTops now n v
tops_sized before now mode w n bottom ls v y e k m up climb small h j near s p = record {
  three = λ a b. ⊎_elim (λ low. rw e (of_gained bottom v.three y.three (p.three low a b) s.three)) (λ high. h.three high (omega arith)) (cases_lt before.height 2);
  two = λ a b c. ⊎_elim
      (λ low. rw e (larger 3982 11404 (2 ^ 31 * 100000000 * bottom) v.two (omega arith) (of_gained bottom v.two y.two (p.two low a b c) s.two)))
      (λ high. top_two_sized before now mode w n ls v k small h j (λ l. near l c) high (omega arith) c)
      (cases_lt before.height 2);
  four = λ a. ⊎_elim (λ low. rw e (of_gained bottom v.four y.four (p.four low a) s.four)) (λ high. h.four high) (cases_lt before.height 4);
  back = λ a.
      let wide : 5 ≤ now.surround = wide_of now m a in
      ⊎_elim
      (λ low. rw e (larger 100 21763 (2 ^ 31 * 100000000 * bottom) v.back (omega arith) (of_plain bottom v.back y.back (p.back low a) s.back)))
      (λ some. ⊎_elim
      (λ few. sized_back mode n v.two v.four v.back (top_two_sized before now mode w n ls v k small h j (λ l. near l wide) some few wide) (rw e (of_gained bottom v.four y.four (p.four few a) s.four)) (j.two a))
      (λ high. h.back high)
      (cases_lt before.height 4))
      (cases_lt before.height 2);
}

other_sized : (n : ℕ) (m l r : ℤ) → m ≡ l +ℤ r → Near 7964 n m → Near 3982 n l → Near 11946 n r
other_sized n m l r e a b = omega (arith, ints)

sized : (kind : ℕ → Kind) (target : ℕ) (mode : Row) (w : ℕ) (y : ℕ → Bed) (bottom : ℕ) (x : Channels) → IsChain kind target → w ≤ 5000 → ((j : ℕ) → j ≤ target → IsSmallBed (y j)) → FitsKinds kind target mode w y bottom x
    → (i : ℕ) → i ≤ target → IsSized (kind i) (2 ^ 31 * 100000000 * bottom) (down (kind target) (of mode) w x)
sized kind target mode w y bottom x chain small s f zero h =
    let v = down (kind target) (of mode) w x in
    let p = f.first in
    let q = s 0 (omega arith) in
    record {
      mono = λ l. of_mono bottom v.mono (y 0).mono (p.mono l) q.mono;
      center = λ l. of_plain bottom v.center (y 0).center (p.center l) q.center;
      low = λ l. of_plain bottom v.low (y 0).low (p.low l) q.low;
      left = first_side_sized (kind 0).surround bottom v.left (y 0).left q.left p.left;
      right = first_side_sized (kind 0).surround bottom v.right (y 0).right q.right p.right;
      left_top = first_tops_sized (kind 0) bottom v.left_top (y 0).left_top q.left_top p.left_top;
      right_top = first_tops_sized (kind 0) bottom v.right_top (y 0).right_top q.right_top p.right_top;
    }
sized kind target mode w y bottom x chain small s f (suc i) h =
    let k = kind target in
    let n = 2 ^ 31 * 100000000 * bottom in
    let v = down k (of mode) w x in
    let g = sized kind target mode w y bottom x chain small s f i (omega arith) in
    let p = f.next i (omega arith) in
    let q = s (suc i) h in
    let z = y (suc i) in
    let before = kind i in
    let now = kind (suc i) in
    let rise : before.surround ≤ now.surround = chain.rises i (omega arith) in
    let climb : before.height ≤ now.height = chain.climbs i (omega arith) in
    let up = rises_up kind target chain target (suc i) h (omega arith) in
    let left = joined_below now.surround k.surround mode v.center v.left up.0 (side_down_joined k.surround mode x.center x.left) in
    let right = joined_below now.surround k.surround mode v.center v.right up.0 (side_down_joined k.surround mode x.center x.right) in
    let left_top = tops_joined_below now k mode w v.left.surround v.left_top up.0 up.1 (tops_down_joined k mode w (back_of k.surround (of mode) x.left) x.left.top x.left.top_back) in
    let right_top = tops_joined_below now k mode w v.right.surround v.right_top up.0 up.1 (tops_down_joined k mode w (back_of k.surround (of mode) x.right) x.right.top x.right.top_back) in
    let center : before.surround < 3 → 3 ≤ now.surround → Near 100 n v.center = λ l m. of_plain bottom v.center z.center (p.center l m) q.center in
    let one : before.surround < 2 → 2 ≤ now.surround → Near 3982 n v.left.two = λ l m. of_gained bottom v.left.two z.left.two (p.stereo l m) q.left.two in
    let two_left : before.surround < 2 → 2 ≤ now.surround → Near 11946 n v.left.two = λ l m. larger 3982 11946 n v.left.two (omega arith) (one l m) in
    let two_right : before.surround < 2 → 2 ≤ now.surround → Near 11946 n v.right.two = λ l m.
    let some : 2 ≤ k.surround = omega (arith, up.0) in other_sized n v.mono v.left.two v.right.two (mono_down k mode w x some) (g.mono l) (one l m) in
    let five_left : before.surround < 5 → 5 ≤ now.surround → Near 100 n v.left.five = λ l m. of_plain bottom v.left.five z.left.five (p.left.five l m) q.left.five in
    let five_right : before.surround < 5 → 5 ≤ now.surround → Near 100 n v.right.five = λ l m. of_plain bottom v.right.five z.right.five (p.right.five l m) q.right.five in
    record {
      mono = λ l. g.mono (omega arith);
      center = λ l. ⊎_elim (λ low. center low l) (λ high. g.center high) (cases_lt before.surround 3);
      low = λ l. ⊎_elim (λ low. of_plain bottom v.low z.low (p.low low l) q.low) (λ high. g.low high) (cases_lt before.surround 3);
      left = side_sized before.surround now.surround n mode v.center v.left rise g.left left center two_left five_left (λ l m. of_plain bottom v.left.side z.left.side (p.left.side l m) q.left.side);
      right = side_sized before.surround now.surround n mode v.center v.right rise g.right right center two_right five_right (λ l m. of_plain bottom v.right.side z.right.side (p.right.side l m) q.right.side);
      left_top = tops_sized before now mode w n bottom v.left.surround v.left_top z.left_top refl (chain.kinds i (omega arith)) (chain.kinds (suc i) h) rise climb small g.left_top left_top
          (λ l m. surround_sized before.surround now.surround n mode v.center v.left g.left left center two_left five_left (omega arith) m) q.left_top p.left_top;
      right_top = tops_sized before now mode w n bottom v.right.surround v.right_top z.right_top refl (chain.kinds i (omega arith)) (chain.kinds (suc i) h) rise climb small g.right_top right_top
          (λ l m. surround_sized before.surround now.surround n mode v.center v.right g.right right center two_right five_right (omega arith) m) q.right_top p.right_top;
    }

small_ten : (k bottom : ℕ) (x : ℤ) → k ≤ 24342 → 0 < bottom → Near k (2 ^ 31 * 100000000 * bottom) (pos 10000000000 *ℤ x) → unsigned_abs x ≤ 244 * 2 ^ 31 * bottom
small_ten k bottom x h some n = let m = larger k 24342 (2 ^ 31 * 100000000 * bottom) (pos 10000000000 *ℤ x) h n in omega (arith, ints)

small_mono : (bottom : ℕ) (x : ℤ) → 0 < bottom → Near 7964 (2 ^ 31 * 100000000 * bottom) (pos 20000000000 *ℤ x) → unsigned_abs x ≤ 244 * 2 ^ 31 * bottom
small_mono bottom x some n = omega (arith, ints)

small_surround : (bottom : ℕ) (x : ℤ) → 0 < bottom → Near 17139 (2 ^ 31 * 100000000 * bottom) (pos 10000000 *ℤ (pos 1000 *ℤ x)) → unsigned_abs x ≤ 244 * 2 ^ 31 * bottom
small_surround bottom x some n = omega (arith, ints)

abbrev Each : (Channel → Type 0) → List Channel → Type 0
Each P [] = Unit {0}
Each P (c ∷ cs) = P c × Each P cs

each_all : (P : Channel → Type 0) (cs : List Channel) → Each P cs → All P cs
each_all P [] e = All-nil P
each_all P (c ∷ cs) e = All-cons P c cs e.0 (each_all P cs e.1)

small_channels : (layout : Layout) (mode : Row) (w bottom : ℕ) (x : Channels) → layout ≢ Binaural → 0 < bottom → IsSized (kind_of layout) (2 ^ 31 * 100000000 * bottom) (down (kind_of layout) (of mode) w x)
    → All (λ c. unsigned_abs (channel_of x c) ≤ 244 * 2 ^ 31 * bottom) (channels layout)
small_channels Mono mode w bottom x n some e = each_all (λ c. unsigned_abs (channel_of x c) ≤ 244 * 2 ^ 31 * bottom) (channels Mono) (small_mono bottom x.mono some (e.mono (omega arith)), tt)
small_channels Stereo mode w bottom x n some e = each_all (λ c. unsigned_abs (channel_of x c) ≤ 244 * 2 ^ 31 * bottom) (channels Stereo) (small_ten 11946 bottom x.left.front (omega arith) some (e.left.two (omega arith) (omega arith)), (small_ten 11946 bottom x.right.front (omega arith) some (e.right.two (omega arith) (omega arith)), tt))
small_channels L51 mode w bottom x n some e = each_all (λ c. unsigned_abs (channel_of x c) ≤ 244 * 2 ^ 31 * bottom) (channels L51) (small_ten 100 bottom x.left.front (omega arith) some (e.left.five (omega arith)), (small_ten 100 bottom x.right.front (omega arith) some (e.right.five (omega arith)), (small_ten 100 bottom x.center (omega arith) some (e.center (omega arith)), (small_ten 100 bottom x.low (omega arith) some (e.low (omega arith)), (small_surround bottom x.left.surround some (e.left.surround (omega arith) (omega arith)), (small_surround bottom x.right.surround some (e.right.surround (omega arith) (omega arith)), tt))))))
small_channels L512 mode w bottom x n some e = each_all (λ c. unsigned_abs (channel_of x c) ≤ 244 * 2 ^ 31 * bottom) (channels L512) (small_ten 100 bottom x.left.front (omega arith) some (e.left.five (omega arith)), (small_ten 100 bottom x.right.front (omega arith) some (e.right.five (omega arith)), (small_ten 100 bottom x.center (omega arith) some (e.center (omega arith)), (small_ten 100 bottom x.low (omega arith) some (e.low (omega arith)), (small_surround bottom x.left.surround some (e.left.surround (omega arith) (omega arith)), (small_surround bottom x.right.surround some (e.right.surround (omega arith) (omega arith)), (small_ten 11404 bottom x.left.top (omega arith) some (e.left_top.two (omega arith) (omega arith) (omega arith)), (small_ten 11404 bottom x.right.top (omega arith) some (e.right_top.two (omega arith) (omega arith) (omega arith)), tt))))))))
small_channels L514 mode w bottom x n some e = each_all (λ c. unsigned_abs (channel_of x c) ≤ 244 * 2 ^ 31 * bottom) (channels L514) (small_ten 100 bottom x.left.front (omega arith) some (e.left.five (omega arith)), (small_ten 100 bottom x.right.front (omega arith) some (e.right.five (omega arith)), (small_ten 100 bottom x.center (omega arith) some (e.center (omega arith)), (small_ten 100 bottom x.low (omega arith) some (e.low (omega arith)), (small_surround bottom x.left.surround some (e.left.surround (omega arith) (omega arith)), (small_surround bottom x.right.surround some (e.right.surround (omega arith) (omega arith)), (small_ten 3982 bottom x.left.top (omega arith) some (e.left_top.four (omega arith)), (small_ten 3982 bottom x.right.top (omega arith) some (e.right_top.four (omega arith)), (small_ten 21763 bottom x.left.top_back (omega arith) some (e.left_top.back (omega arith)), (small_ten 21763 bottom x.right.top_back (omega arith) some (e.right_top.back (omega arith)), tt))))))))))
small_channels L71 mode w bottom x n some e = each_all (λ c. unsigned_abs (channel_of x c) ≤ 244 * 2 ^ 31 * bottom) (channels L71) (small_ten 100 bottom x.left.front (omega arith) some (e.left.five (omega arith)), (small_ten 100 bottom x.right.front (omega arith) some (e.right.five (omega arith)), (small_ten 100 bottom x.center (omega arith) some (e.center (omega arith)), (small_ten 100 bottom x.low (omega arith) some (e.low (omega arith)), (small_ten 24342 bottom x.left.rear (omega arith) some (e.left.rear (omega arith)), (small_ten 24342 bottom x.right.rear (omega arith) some (e.right.rear (omega arith)), (small_ten 100 bottom x.left.side (omega arith) some (e.left.side (omega arith)), (small_ten 100 bottom x.right.side (omega arith) some (e.right.side (omega arith)), tt))))))))
small_channels L712 mode w bottom x n some e = each_all (λ c. unsigned_abs (channel_of x c) ≤ 244 * 2 ^ 31 * bottom) (channels L712) (small_ten 100 bottom x.left.front (omega arith) some (e.left.five (omega arith)), (small_ten 100 bottom x.right.front (omega arith) some (e.right.five (omega arith)), (small_ten 100 bottom x.center (omega arith) some (e.center (omega arith)), (small_ten 100 bottom x.low (omega arith) some (e.low (omega arith)), (small_ten 24342 bottom x.left.rear (omega arith) some (e.left.rear (omega arith)), (small_ten 24342 bottom x.right.rear (omega arith) some (e.right.rear (omega arith)), (small_ten 100 bottom x.left.side (omega arith) some (e.left.side (omega arith)), (small_ten 100 bottom x.right.side (omega arith) some (e.right.side (omega arith)), (small_ten 11404 bottom x.left.top (omega arith) some (e.left_top.two (omega arith) (omega arith) (omega arith)), (small_ten 11404 bottom x.right.top (omega arith) some (e.right_top.two (omega arith) (omega arith) (omega arith)), tt))))))))))
small_channels L714 mode w bottom x n some e = each_all (λ c. unsigned_abs (channel_of x c) ≤ 244 * 2 ^ 31 * bottom) (channels L714) (small_ten 100 bottom x.left.front (omega arith) some (e.left.five (omega arith)), (small_ten 100 bottom x.right.front (omega arith) some (e.right.five (omega arith)), (small_ten 100 bottom x.center (omega arith) some (e.center (omega arith)), (small_ten 100 bottom x.low (omega arith) some (e.low (omega arith)), (small_ten 24342 bottom x.left.rear (omega arith) some (e.left.rear (omega arith)), (small_ten 24342 bottom x.right.rear (omega arith) some (e.right.rear (omega arith)), (small_ten 100 bottom x.left.side (omega arith) some (e.left.side (omega arith)), (small_ten 100 bottom x.right.side (omega arith) some (e.right.side (omega arith)), (small_ten 3982 bottom x.left.top (omega arith) some (e.left_top.four (omega arith)), (small_ten 3982 bottom x.right.top (omega arith) some (e.right_top.four (omega arith)), (small_ten 21763 bottom x.left.top_back (omega arith) some (e.left_top.back (omega arith)), (small_ten 21763 bottom x.right.top_back (omega arith) some (e.right_top.back (omega arith)), tt))))))))))))
small_channels L312 mode w bottom x n some e = each_all (λ c. unsigned_abs (channel_of x c) ≤ 244 * 2 ^ 31 * bottom) (channels L312) (small_ten 12017 bottom x.left.front (omega arith) some (e.left.three (omega arith) (omega arith)), (small_ten 12017 bottom x.right.front (omega arith) some (e.right.three (omega arith) (omega arith)), (small_ten 100 bottom x.center (omega arith) some (e.center (omega arith)), (small_ten 100 bottom x.low (omega arith) some (e.low (omega arith)), (small_ten 3982 bottom x.left.top (omega arith) some (e.left_top.three (omega arith) (omega arith)), (small_ten 3982 bottom x.right.top (omega arith) some (e.right_top.three (omega arith) (omega arith)), tt))))))
small_channels Binaural mode w bottom x n some e = absurd (n refl)

fitting_small : (layout : Layout) (kind : ℕ → Kind) (target : ℕ) (mode : Row) (w : ℕ) (y : ℕ → Bed) (bottom : ℕ) (x : Channels)
    → IsChain kind target → w ≤ 5000 → kind target ≡ kind_of layout → layout ≢ Binaural → ((j : ℕ) → j ≤ target → IsSmallBed (y j)) → FitsKinds kind target mode w y bottom x
    → All (λ c. unsigned_abs (channel_of x c) ≤ 244 * 2 ^ 31 * bottom) (channels layout)
fitting_small layout kind target mode w y bottom x chain small e n s f =
    small_channels layout mode w bottom x n f.some (rw e at (sized kind target mode w y bottom x chain small s f target (omega arith)))

below : (a bottom : ℕ) → 0 < bottom → a ≤ 244 * 2 ^ 31 * bottom → a < 2 ^ 39 * bottom
below a bottom some h = omega arith

pub fitting_is_small : KindFittingIsSmall
fitting_is_small layout kind target mode w y bottom x chain small e n s f k d h =
    below _ bottom f.some (fitting_small layout kind target mode w y bottom x chain small e n s f k d h)

cancel : (a b n : ℕ) → a * n < b * n → a < b
cancel a b n h = ⊎_elim (λ low. low) (λ high. absurd (let m = mul-le-mul_right n high in omega (arith, m, h))) (cases_lt a b)

fixed_below : (bottom : ℕ) (f x : ℤ) → 0 < bottom → unsigned_abs x ≤ 244 * 2 ^ 31 * bottom → unsigned_abs (f *ℤ pos bottom -ℤ pos unit *ℤ x) < 64 * bottom → unsigned_abs f < 2 ^ 39 * 2 ^ 28
fixed_below bottom f x some a b =
    let e : unsigned_abs (f *ℤ pos bottom) ≡ unsigned_abs f * bottom = unsigned_abs-mul f (pos bottom) in
    let c : unsigned_abs (f *ℤ pos bottom) < (2 ^ 39 * 2 ^ 28) * bottom = omega (arith, ints) in
    cancel (unsigned_abs f) (2 ^ 39 * 2 ^ 28) bottom (rw e at c)

pub fixed_is_small : KindFixedIsSmall
fixed_is_small layout kind target mode w y chain small e n s k d h =
    let f = exact_fits kind target mode w y chain in
    let x = exact_channels (kind target) (of mode) (exact kind (of mode) w y target) in
    let c = slice_index_or (channels layout) k d in
    fixed_below (bottom_of (of mode)) (value_of (kind target) (fixed kind (of mode) w y target) c) (channel_of x c) f.some (fitting_small layout kind target mode w y (bottom_of (of mode)) x chain small e n s f k d h)
    (fixed_is_near layout kind target mode w y (bottom_of (of mode)) x chain small e n f k d h)
