-- The channels that are given in one go, put together from their parts.
use Rattle.std.proofs.Common.{◌≡◌, ℕ, ℤ, pos, ◌-ℤ◌, ◌*ℤ◌, ◌*◌, refl, if◌then◌else◌}
use Rattle.spec_gains.specs.Modes.{Coefficients}
use Rattle.spec_demix.specs.Floor.{floor_of}
use Rattle.spec_demix.specs.declared.Side.{Side}
use Rattle.spec_demix.specs.declared.Tops.{Tops}
use Rattle.spec_demix.specs.declared.Bed.{Bed}
use Rattle.mix_fixed.specs.declared.origins.Origins.{Origins}
use Rattle.mix_fixed.specs.Origins.{side_from, tops_from, all_from}

pub side_is : (origins : Origins) (mode : Coefficients) (two share : ℤ) (sent : Side) (a b d e f : ℤ)
    → a ≡ (if origins.three then two -ℤ share else sent.three) → d ≡ sent.five
    → b ≡ (if origins.surround then floor_of (pos 1000 *ℤ (a -ℤ d)) mode.delta else sent.surround) → e ≡ sent.side
    → f ≡ (if origins.rear then floor_of (pos 1000 *ℤ b -ℤ pos mode.alpha *ℤ e) mode.beta else sent.rear)
    → record { two = two; three = a; five = d; surround = b; side = e; rear = f } ≡ side_from origins mode two share sent
side_is origins mode two share sent a b d e f ka kd kb ke kf = rw kf (rw kb (rw (ka, kd, ke) refl))

pub tops_are : (origins : Origins) (mode : Coefficients) (w : ℕ) (surround : ℤ) (sent : Tops) (a b d e : ℤ)
    → a ≡ sent.three → b ≡ (if origins.top then a -ℤ floor_of (pos (w * mode.delta) *ℤ surround) 10000000 else sent.two)
    → d ≡ sent.four → e ≡ (if origins.back then floor_of (pos 1000 *ℤ (b -ℤ d)) mode.gamma else sent.back)
    → record { three = a; two = b; four = d; back = e } ≡ tops_from origins mode w surround sent
tops_are origins mode w surround sent a b d e ka kb kd ke = rw ke (rw kb (rw (ka, kd) refl))

pub all_are : (origins : Origins) (mode : Coefficients) (w : ℕ) (sent : Bed) (mono center low left_two right_two share : ℤ) (left right : Side) (left_top right_top : Tops)
    → mono ≡ sent.mono → center ≡ sent.center → low ≡ sent.low → left_two ≡ sent.left.two
    → right_two ≡ (if origins.right then pos 2 *ℤ mono -ℤ left_two else sent.right.two) → share ≡ floor_of (pos 707 *ℤ center) 1000
    → left ≡ side_from origins mode left_two share sent.left → right ≡ side_from origins mode right_two share sent.right
    → left_top ≡ tops_from origins mode w left.surround sent.left_top → right_top ≡ tops_from origins mode w right.surround sent.right_top
    → record { mono = mono; center = center; low = low; left = left; right = right; left_top = left_top; right_top = right_top } ≡ all_from origins mode w sent
all_are origins mode w sent mono center low left_two right_two share left right left_top right_top km kc kl k2 kr ks l r lt rt =
    rw (lt, rt) (rw (l, r) (rw (kr, ks) (rw (km, kc, kl, k2) refl)))
