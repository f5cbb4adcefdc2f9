-- What one layer more gives is given in one go as well: no channel is given twice, and none follows from one that comes later.
use Rattle.std.proofs.Common.{arith, ◌≡◌, ◌≤◌, ℕ, ℤ, pos, ◌-ℤ◌, ◌*ℤ◌, ◌*◌, refl, ap, ◌∙◌, Bool, true, false, ◌||◌, ◌&&◌, nat_le, List, if◌then◌else◌}
use Rattle.std.proofs.lemmas.Bool.Decides.{nat_tests}
use Rattle.spec_gains.specs.Modes.{Coefficients}
use Rattle.spec_demix.specs.Floor.{floor_of}
use Rattle.spec_demix.specs.Kinds.{reaches, gives_three, gives_two, leaves_three, gives_four, gives_back, splits_two}
use Rattle.spec_demix.specs.Sent.{sample_of, bed_of}
use Rattle.spec_demix.specs.FixedWalk.{units_of, bed_units, side_after, tops_after, bed_after}
use Rattle.spec_demix.specs.declared.Kind.{Kind}
use Rattle.spec_demix.specs.declared.Side.{Side}
use Rattle.spec_demix.specs.declared.Tops.{Tops}
use Rattle.spec_demix.specs.declared.Bed.{Bed}
use Rattle.spec_demix.specs.declared.Sent.{Sent}
use Rattle.spec_demix.specs.declared.SentBed.{SentBed}
use Rattle.spec_demix.proofs.FloorLemmas.{not_reached, three_not_given, two_not_given, three_not_left, four_not_given, back_not_given}
use Rattle.mix_fixed.specs.declared.origins.Origins.{Origins}
use Rattle.mix_fixed.specs.Origins.{origins_after, side_from, tops_from, bed_from}

-- what comes where a test holds is that of the new channel
picked : (t : Bool) (x y : ℤ) (f : ℤ → ℤ) (o : ℤ) → (if t then f (if t then x else y) else o) ≡ (if t then f x else o)
picked true x y f o = refl
picked false x y f o = refl

picked_both : (s t : Bool) (x y : ℤ) (f : ℤ → ℤ) (o : ℤ) → (if s && t then f (if t then x else y) else o) ≡ (if s && t then f x else o)
picked_both true true x y f o = refl
picked_both true false x y f o = refl
picked_both false t x y f o = refl

-- ---- the walk's channels after a layer, put together from their parts

side_after_is : (before now : ℕ) (mode : Coefficients) (two center : ℤ) (old sent : Side) (t3 t5 t7 : Bool) (a b d e f : ℤ)
    → t3 ≡ reaches 3 before now → t5 ≡ reaches 5 before now → t7 ≡ reaches 7 before now
    → a ≡ (if t3 then two -ℤ floor_of (pos 707 *ℤ center) 1000 else old.three)
    → b ≡ (if t5 then floor_of (pos 1000 *ℤ (a -ℤ d)) mode.delta else old.surround)
    → d ≡ (if t5 then sent.five else old.five) → e ≡ (if t7 then sent.side else old.side)
    → f ≡ (if t7 then floor_of (pos 1000 *ℤ b -ℤ pos mode.alpha *ℤ e) mode.beta else old.rear)
    → record { two = two; three = a; five = d; surround = b; side = e; rear = f } ≡ side_after before now mode two center old sent
side_after_is before now mode two center old sent t3 t5 t7 a b d e f k3 k5 k7 ka kb kd ke kf =
    let pb : b ≡ (if t5 then floor_of (pos 1000 *ℤ (a -ℤ sent.five)) mode.delta else old.surround) =
    kb ∙ (rw kd (picked t5 sent.five old.five (λ x. floor_of (pos 1000 *ℤ (a -ℤ x)) mode.delta) old.surround)) in
    let pf : f ≡ (if t7 then floor_of (pos 1000 *ℤ b -ℤ pos mode.alpha *ℤ sent.side) mode.beta else old.rear) =
    kf ∙ (rw ke (picked t7 sent.side old.side (λ x. floor_of (pos 1000 *ℤ b -ℤ pos mode.alpha *ℤ x) mode.beta) old.rear)) in
    rw (pf, kd, ke) (rw pb (rw ka (rw (k3, k5, k7) refl)))

tops_after_are : (before now : Kind) (mode : Coefficients) (w : ℕ) (surround : ℤ) (old sent : Tops) (l3 g2 g3 g4 s2 gb : Bool) (a b d e : ℤ)
    → l3 ≡ leaves_three before now → g2 ≡ gives_two before now → g3 ≡ gives_three before now → g4 ≡ gives_four before now → s2 ≡ splits_two before now → gb ≡ gives_back before now
    → b ≡ (if l3 then old.three -ℤ floor_of (pos (w * mode.delta) *ℤ surround) 10000000 else (if g2 then sent.two else old.two))
    → a ≡ (if g3 then sent.three else old.three) → d ≡ (if g4 then sent.four else old.four)
    → e ≡ (if s2 then floor_of (pos 1000 *ℤ (b -ℤ d)) mode.gamma else (if gb then sent.back else old.back))
    → record { three = a; two = b; four = d; back = e } ≡ tops_after before now mode w surround old sent
tops_after_are before now mode w surround old sent l3 g2 g3 g4 s2 gb a b d e k1 k2 k3 k4 k5 k6 kb ka kd ke =
    let pe : e ≡ (if splits_two before now then floor_of (pos 1000 *ℤ (b -ℤ sent.four)) mode.gamma else (if gb then sent.back else old.back)) =
    ke ∙ (rw (k5, kd) (rw k4 (picked_both (nat_le 2 before.height) (gives_four before now) sent.four old.four (λ x. floor_of (pos 1000 *ℤ (b -ℤ x)) mode.gamma) (if gb then sent.back else old.back)))) in
    rw (ka, kd, pe) (rw kb (rw (k1, k2, k3, k4, k6) refl))

bed_after_is : (before now : Kind) (mode : Coefficients) (w : ℕ) (old sent : Bed) (t2 t3 : Bool) (center low left_two right_two : ℤ) (left right : Side) (left_top right_top : Tops)
    → t2 ≡ reaches 2 before.surround now.surround → t3 ≡ reaches 3 before.surround now.surround
    → center ≡ (if t3 then sent.center else old.center) → low ≡ (if t3 then sent.low else old.low)
    → left_two ≡ (if t2 then sent.left.two else old.left.two) → right_two ≡ (if t2 then pos 2 *ℤ old.mono -ℤ sent.left.two else old.right.two)
    → left ≡ side_after before.surround now.surround mode left_two center old.left sent.left → right ≡ side_after before.surround now.surround mode right_two center old.right sent.right
    → left_top ≡ tops_after before now mode w left.surround old.left_top sent.left_top → right_top ≡ tops_after before now mode w right.surround old.right_top sent.right_top
    → record { mono = old.mono; center = center; low = low; left = left; right = right; left_top = left_top; right_top = right_top } ≡ bed_after before now mode w old sent
bed_after_is before now mode w old sent t2 t3 center low left_two right_two left right left_top right_top k2 k3 a g b d e f h i = rw (h, i) (rw (e, f) (rw (a, g, b, d) (rw (k2, k3) refl)))

-- ---- a channel that follows from others, where it did before or comes to

derived : (r f : Bool) (new old x : ℤ) → (r ≡ false → f ≡ true → new ≡ old) → (if r || f then new else x) ≡ (if r then new else (if f then old else x))
derived true f new old x p = refl
derived false true new old x p = p refl refl
derived false false new old x p = refl

-- a top that follows from others or is sent
topped : (v l g : Bool) (new kept old next x : ℤ) → (v ≡ true → new ≡ kept) → (v ≡ false → l ≡ true → (new ≡ old) × (g ≡ false))
    → (if v || l then new else (if g then next else x)) ≡ (if v then kept else (if g then next else (if l then old else x)))
topped true l g new kept old next x p q = p refl
topped false true g new kept old next x p q = let h = q refl refl in rw (h.1) (h.0)
topped false false g new kept old next x p q = refl

-- the right of stereo
right_of : (t m : Bool) (twice new next old x y z : ℤ) → new ≡ (if t then next else old) → x ≡ (if t then y else z)
    → (if t || m then twice -ℤ new else x) ≡ (if t then twice -ℤ next else (if m then twice -ℤ old else z))
right_of true m twice new next old x y z n e = rw n refl
right_of false true twice new next old x y z n e = rw n refl
right_of false false twice new next old x y z n e = e

both : (f : ℤ → ℤ → ℤ) (a b d e : ℤ) → a ≡ b → d ≡ e → f a d ≡ f b e
both f a b d e h k = rw (h, k) refl

fails_test : (r : Bool) (x y : ℤ) → r ≡ false → (if r then x else y) ≡ y
fails_test r x y e = rw e refl

-- the units of the sample that is sent by the one or the other
units_if : (coded : List ℤ) (t : Bool) (x y : Sent) → units_of (sample_of coded (if t then x else y)) ≡ (if t then units_of (sample_of coded x) else units_of (sample_of coded y))
units_if coded true x y = refl
units_if coded false x y = refl

-- ---- one side

side_next : (before now : ℕ) (mode : Coefficients) (o : Origins) (two' two center' center : ℤ) (g h : Side) (a b d e f : ℤ)
    → (3 ≤ before → (two' ≡ two) × (center' ≡ center)) → (o.three ≡ true → 3 ≤ before) → (o.surround ≡ true → 5 ≤ before) → (o.rear ≡ true → 7 ≤ before)
    → a ≡ (if reaches 3 before now || o.three then two' -ℤ floor_of (pos 707 *ℤ center') 1000 else g.three)
    → d ≡ (if reaches 5 before now then h.five else g.five)
    → b ≡ (if reaches 5 before now || o.surround then floor_of (pos 1000 *ℤ (a -ℤ d)) mode.delta else g.surround)
    → e ≡ (if reaches 7 before now then h.side else g.side)
    → f ≡ (if reaches 7 before now || o.rear then floor_of (pos 1000 *ℤ b -ℤ pos mode.alpha *ℤ e) mode.beta else g.rear)
    → record { two = two'; three = a; five = d; surround = b; side = e; rear = f } ≡ side_after before now mode two' center' (side_from o mode two (floor_of (pos 707 *ℤ center) 1000) g) h
side_next before now mode o two' two center' center g h a b d e f same s3 s5 s7 ka kd kb ke kf =
    let old = side_from o mode two (floor_of (pos 707 *ℤ center) 1000) g in
    let pa : a ≡ (if reaches 3 before now then two' -ℤ floor_of (pos 707 *ℤ center') 1000 else old.three) =
    ka ∙ derived (reaches 3 before now) o.three (two' -ℤ floor_of (pos 707 *ℤ center') 1000) (two -ℤ floor_of (pos 707 *ℤ center) 1000) g.three
    (λ n k. let q = same (s3 k) in both (λ x y. x -ℤ floor_of (pos 707 *ℤ y) 1000) two' two center' center (q.0) (q.1)) in
    let pb : b ≡ (if reaches 5 before now then floor_of (pos 1000 *ℤ (a -ℤ d)) mode.delta else old.surround) =
    kb ∙ derived (reaches 5 before now) o.surround (floor_of (pos 1000 *ℤ (a -ℤ d)) mode.delta) (floor_of (pos 1000 *ℤ (old.three -ℤ g.five)) mode.delta) g.surround
    (λ n k. let five = s5 k in both (λ x y. floor_of (pos 1000 *ℤ (x -ℤ y)) mode.delta) a old.three d g.five
    (pa ∙ fails_test (reaches 3 before now) _ _ (not_reached 3 before now (omega (arith, five)))) (kd ∙ fails_test (reaches 5 before now) _ _ n)) in
    let pf : f ≡ (if reaches 7 before now then floor_of (pos 1000 *ℤ b -ℤ pos mode.alpha *ℤ e) mode.beta else old.rear) =
    kf ∙ derived (reaches 7 before now) o.rear (floor_of (pos 1000 *ℤ b -ℤ pos mode.alpha *ℤ e) mode.beta) (floor_of (pos 1000 *ℤ old.surround -ℤ pos mode.alpha *ℤ g.side) mode.beta) g.rear
    (λ n k. let seven = s7 k in both (λ x y. floor_of (pos 1000 *ℤ x -ℤ pos mode.alpha *ℤ y) mode.beta) b old.surround e g.side
    (pb ∙ fails_test (reaches 5 before now) _ _ (not_reached 5 before now (omega (arith, seven)))) (ke ∙ fails_test (reaches 7 before now) _ _ n)) in
    side_after_is before now mode two' center' old h (reaches 3 before now) (reaches 5 before now) (reaches 7 before now) a b d e f refl refl refl pa pb kd ke pf

-- ---- one side's tops

no_three : (before now : Kind) → leaves_three before now ≡ true → gives_three before now ≡ false
no_three before now e = grind (arith, nat_tests)

tops_next : (before now : Kind) (mode : Coefficients) (w : ℕ) (o : Origins) (surround' surround : ℤ) (g h : Tops) (a b d e : ℤ)
    → (5 ≤ before.surround → surround' ≡ surround) → (o.top ≡ true → (5 ≤ before.surround) × (2 ≤ before.height)) → (o.back ≡ true → (5 ≤ before.surround) × (4 ≤ before.height))
    → a ≡ (if gives_three before now then h.three else g.three)
    → b ≡ (if leaves_three before now || o.top then a -ℤ floor_of (pos (w * mode.delta) *ℤ surround') 10000000 else (if gives_two before now then h.two else g.two))
    → d ≡ (if gives_four before now then h.four else g.four)
    → e ≡ (if splits_two before now || o.back then floor_of (pos 1000 *ℤ (b -ℤ d)) mode.gamma else (if gives_back before now then h.back else g.back))
    → record { three = a; two = b; four = d; back = e } ≡ tops_after before now mode w surround' (tops_from o mode w surround g) h
tops_next before now mode w o surround' surround g h a b d e same st sb ka kb kd ke =
    let old = tops_from o mode w surround g in
    let share = λ (x y : ℤ). x -ℤ floor_of (pos (w * mode.delta) *ℤ y) 10000000 in
    let rest = λ (x y : ℤ). floor_of (pos 1000 *ℤ (x -ℤ y)) mode.gamma in
    let pb : b ≡ (if leaves_three before now then g.three -ℤ floor_of (pos (w * mode.delta) *ℤ surround') 10000000 else (if gives_two before now then h.two else old.two)) =
    kb ∙ topped (leaves_three before now) o.top (gives_two before now) (share a surround') (share g.three surround') (share g.three surround) h.two g.two
    (λ v. both share a g.three surround' surround' (ka ∙ fails_test (gives_three before now) _ _ (no_three before now v)) refl)
    (λ v k. let q = st k in (both share a g.three surround' surround (ka ∙ fails_test (gives_three before now) _ _ (three_not_given before now (q.1))) (same (q.0)), two_not_given before now (q.1))) in
    let pe : e ≡ (if splits_two before now then floor_of (pos 1000 *ℤ (b -ℤ d)) mode.gamma else (if gives_back before now then h.back else old.back)) =
    ke ∙ topped (splits_two before now) o.back (gives_back before now) (rest b d) (rest b d) (rest old.two g.four) h.back g.back
    (λ v. refl)
    (λ v k. let q = sb k in let high = q.1 in (
      both rest b old.two d g.four
          (pb ∙ fails_test (leaves_three before now) _ _ (three_not_left before now (q.0)) ∙ fails_test (gives_two before now) _ _ (two_not_given before now (omega (arith, high))))
          (kd ∙ fails_test (gives_four before now) _ _ (four_not_given before now high)),
      back_not_given before now (omega (arith, high)),
    )) in
    tops_after_are before now mode w surround' old h (leaves_three before now) (gives_two before now) (gives_three before now) (gives_four before now) (splits_two before now) (gives_back before now) a b d e
    refl refl refl refl refl refl pb ka kd pe

-- ---- all channels

-- which channels follow from others, once the counts are so large
pub record IsStage (kind : Kind) (o : Origins) : Type 0 where
  pub three : o.three ≡ true → 3 ≤ kind.surround
  pub surround : o.surround ≡ true → 5 ≤ kind.surround
  pub rear : o.rear ≡ true → 7 ≤ kind.surround
  pub top : o.top ≡ true → (5 ≤ kind.surround) × (2 ≤ kind.height)
  pub back : o.back ≡ true → (5 ≤ kind.surround) × (4 ≤ kind.height)

pub bed_next : (before now : Kind) (mode : Coefficients) (w : ℕ) (o : Origins) (next : SentBed) (coded : List ℤ) → IsStage before o
    → bed_from (origins_after before now o next) mode w coded ≡ bed_after before now mode w (bed_from o mode w coded) (bed_units (bed_of coded next))
bed_next before now mode w o next coded stage =
    let b = before.surround in
    let n = now.surround in
    let t2 = reaches 2 b n in
    let t3 = reaches 3 b n in
    let new = bed_from (origins_after before now o next) mode w coded in
    let old = bed_from o mode w coded in
    let g = bed_units (bed_of coded o.sent) in
    let h = bed_units (bed_of coded next) in
    let center = units_if coded t3 next.center o.sent.center in
    let low = units_if coded t3 next.low o.sent.low in
    let left_two = units_if coded t2 next.left.two o.sent.left.two in
    let right_two = right_of t2 o.right (pos 2 *ℤ g.mono) new.left.two h.left.two g.left.two _ h.right.two g.right.two left_two (units_if coded t2 next.right.two o.sent.right.two) in
    let still = λ (three : 3 ≤ b). center ∙ fails_test t3 _ _ (not_reached 3 b n three) in
    let left : new.left ≡ side_after b n mode new.left.two new.center old.left h.left =
    side_next b n mode o new.left.two old.left.two new.center old.center g.left h.left new.left.three new.left.surround new.left.five new.left.side new.left.rear
    (λ three. (left_two ∙ fails_test t2 _ _ (not_reached 2 b n (omega (arith, three))), still three)) stage.three stage.surround stage.rear
    refl (units_if coded (reaches 5 b n) next.left.five o.sent.left.five) refl (units_if coded (reaches 7 b n) next.left.side o.sent.left.side) refl in
    let right : new.right ≡ side_after b n mode new.right.two new.center old.right h.right =
    side_next b n mode o new.right.two old.right.two new.center old.center g.right h.right new.right.three new.right.surround new.right.five new.right.side new.right.rear
    (λ three. (right_two ∙ fails_test t2 _ _ (not_reached 2 b n (omega (arith, three))), still three)) stage.three stage.surround stage.rear
    refl (units_if coded (reaches 5 b n) next.right.five o.sent.right.five) refl (units_if coded (reaches 7 b n) next.right.side o.sent.right.side) refl in
    let left_top : new.left_top ≡ tops_after before now mode w new.left.surround old.left_top h.left_top =
    tops_next before now mode w o new.left.surround old.left.surround g.left_top h.left_top new.left_top.three new.left_top.two new.left_top.four new.left_top.back
    (λ five. ap (λ (v : Side). v.surround) left ∙ fails_test (reaches 5 b n) _ _ (not_reached 5 b n five)) stage.top stage.back
    (units_if coded (gives_three before now) next.left_top.three o.sent.left_top.three) (ap (λ x. if leaves_three before now || o.top then new.left_top.three -ℤ floor_of (pos (w * mode.delta) *ℤ new.left.surround) 10000000 else x) (units_if coded (gives_two before now) next.left_top.two o.sent.left_top.two))
    (units_if coded (gives_four before now) next.left_top.four o.sent.left_top.four) (ap (λ x. if splits_two before now || o.back then floor_of (pos 1000 *ℤ (new.left_top.two -ℤ new.left_top.four)) mode.gamma else x) (units_if coded (gives_back before now) next.left_top.back o.sent.left_top.back)) in
    let right_top : new.right_top ≡ tops_after before now mode w new.right.surround old.right_top h.right_top =
    tops_next before now mode w o new.right.surround old.right.surround g.right_top h.right_top new.right_top.three new.right_top.two new.right_top.four new.right_top.back
    (λ five. ap (λ (v : Side). v.surround) right ∙ fails_test (reaches 5 b n) _ _ (not_reached 5 b n five)) stage.top stage.back
    (units_if coded (gives_three before now) next.right_top.three o.sent.right_top.three) (ap (λ x. if leaves_three before now || o.top then new.right_top.three -ℤ floor_of (pos (w * mode.delta) *ℤ new.right.surround) 10000000 else x) (units_if coded (gives_two before now) next.right_top.two o.sent.right_top.two))
    (units_if coded (gives_four before now) next.right_top.four o.sent.right_top.four) (ap (λ x. if splits_two before now || o.back then floor_of (pos 1000 *ℤ (new.right_top.two -ℤ new.right_top.four)) mode.gamma else x) (units_if coded (gives_back before now) next.right_top.back o.sent.right_top.back)) in
    bed_after_is before now mode w old h t2 t3 new.center new.low new.left.two new.right.two new.left new.right new.left_top new.right_top refl refl center low left_two right_two left right left_top right_top
