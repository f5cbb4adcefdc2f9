-- A step's channels, put together from what its parts give.
use Rattle.std.proofs.Common.{◌≡◌, ℕ, ℤ, pos, ◌-ℤ◌, ◌*ℤ◌, ◌*◌, refl, Bool, if◌then◌else◌}
use Rattle.spec_gains.specs.Modes.{Coefficients}
use Rattle.spec_demix.specs.Kinds.{reaches, gives_three, gives_two, leaves_three, gives_four, gives_back, splits_two}
use Rattle.spec_demix.specs.ExactWalk.{exact_side_after, exact_tops_after, exact_after}
use Rattle.spec_demix.specs.declared.Kind.{Kind}
use Rattle.spec_demix.specs.declared.Side.{Side}
use Rattle.spec_demix.specs.declared.Tops.{Tops}
use Rattle.spec_demix.specs.declared.Bed.{Bed}

pub side_is : (before now : ℕ) (mode : Coefficients) (two center : ℤ) (old sent : Side) (t3 t5 t7 : Bool) (p : ℕ) (beside a b d e f : ℤ)
    → t3 ≡ reaches 3 before now → t5 ≡ reaches 5 before now → t7 ≡ reaches 7 before now → p ≡ mode.alpha * mode.delta → beside ≡ pos p *ℤ sent.side
    → a ≡ (if t3 then pos 1000 *ℤ two -ℤ pos 707 *ℤ center else old.three)
    → b ≡ (if t5 then a -ℤ pos 1000 *ℤ sent.five else old.surround)
    → d ≡ (if t5 then sent.five else old.five) → e ≡ (if t7 then sent.side else old.side)
    → f ≡ (if t7 then pos 1000 *ℤ b -ℤ beside else old.rear)
    → record { two = two; three = a; five = d; surround = b; side = e; rear = f } ≡ exact_side_after before now mode two center old sent
side_is before now mode two center old sent t3 t5 t7 p beside a b d e f k3 k5 k7 kp kn ka kb kd ke kf = rw (kf, kd, ke) (rw kb (rw ka (rw kn (rw kp (rw (k3, k5, k7) refl)))))

pub tops_are : (before now : Kind) (mode : Coefficients) (w : ℕ) (surround : ℤ) (old sent : Tops) (l3 g2 g3 g4 s2 gb : Bool) (share back a b d e : ℤ)
    → l3 ≡ leaves_three before now → g2 ≡ gives_two before now → g3 ≡ gives_three before now → g4 ≡ gives_four before now → s2 ≡ splits_two before now → gb ≡ gives_back before now
    → share ≡ pos w *ℤ surround → back ≡ pos (10000 * mode.gamma) *ℤ sent.back
    → b ≡ (if l3 then pos 10000000 *ℤ old.three -ℤ share else (if g2 then pos 10000000 *ℤ sent.two else old.two))
    → a ≡ (if g3 then sent.three else old.three) → d ≡ (if g4 then sent.four else old.four)
    → e ≡ (if s2 then b -ℤ pos 10000000 *ℤ sent.four else (if gb then back else old.back))
    → record { three = a; two = b; four = d; back = e } ≡ exact_tops_after before now mode w surround old sent
tops_are before now mode w surround old sent l3 g2 g3 g4 s2 gb share back a b d e k1 k2 k3 k4 k5 k6 ks kc kb ka kd ke = rw (ka, kd, ke) (rw kb (rw (ks, kc) (rw (k1, k2, k3, k4, k5, k6) refl)))

pub bed_is : (before now : Kind) (mode : Coefficients) (w : ℕ) (old sent : Bed) (t2 t3 : Bool) (center low left_two right_two : ℤ) (left right : Side) (left_top right_top : Tops)
    → t2 ≡ reaches 2 before.surround now.surround → t3 ≡ reaches 3 before.surround now.surround
    → center ≡ (if t3 then sent.center else old.center) → low ≡ (if t3 then sent.low else old.low)
    → left_two ≡ (if t2 then sent.left.two else old.left.two) → right_two ≡ (if t2 then pos 2 *ℤ old.mono -ℤ sent.left.two else old.right.two)
    → left ≡ exact_side_after before.surround now.surround mode left_two center old.left sent.left → right ≡ exact_side_after before.surround now.surround mode right_two center old.right sent.right
    → left_top ≡ exact_tops_after before now mode w left.surround old.left_top sent.left_top → right_top ≡ exact_tops_after before now mode w right.surround old.right_top sent.right_top
    → record { mono = old.mono; center = center; low = low; left = left; right = right; left_top = left_top; right_top = right_top } ≡ exact_after before now mode w old sent
bed_is before now mode w old sent t2 t3 center low left_two right_two left right left_top right_top k2 k3 a g b d e f h i = rw (h, i) (rw (e, f) (rw (a, g, b, d) (rw (k2, k3) refl)))
