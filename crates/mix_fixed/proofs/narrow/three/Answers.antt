use Rattle.std.proofs.Common.{arith, ◌≡◌, Bool, true, ℤ, pos, ◌-ℤ◌, ◌*ℤ◌, if◌then◌else◌, refl}
use Rattle.spec_demix.specs.Floor.{floor_of}
use Rattle.mix_fixed.specs.Quiet.{hundredth}
use Rattle.mix_fixed.specs.Within.{AtMost}
use Rattle.mix_fixed.proofs.Held.{held, held_is, less_is}
use Rattle.mix_fixed.proofs.narrow.three.Goals as goal

-- one side
less_share : (follows : Bool) (two center share sent : ℤ) → follows ≡ true → AtMost hundredth 300 two → AtMost hundredth 100 center → AtMost hundredth 72 share
    → share ≡ floor_of (pos 707 *ℤ held center) 1000 → held (held two -ℤ held share) ≡ (if follows then two -ℤ floor_of (pos 707 *ℤ center) 1000 else sent)
less_share follows two center share sent follow t m s e =
    let k = rw (held_is 100 center (omega arith) m) at e in
    rw (less_is 300 72 two share (omega arith) t s) (rw (follow, k) refl)

pub returns-then-follows-clause-left : goal.returns-then-follows-clause-left
returns-then-follows-clause-left g c =
    less_share c.args.follows c.args.two.left c.args.center _ _ c.if-follows.true c.requires.two_left c.requires.center c.share_of_center-share.ensures.most c.share_of_center-share.ensures.value

pub returns-then-follows-clause-right : goal.returns-then-follows-clause-right
returns-then-follows-clause-right g c =
    less_share c.args.follows c.args.two.right c.args.center _ _ c.if-follows.true c.requires.two_right c.requires.center c.share_of_center-share.ensures.most c.share_of_center-share.ensures.value
