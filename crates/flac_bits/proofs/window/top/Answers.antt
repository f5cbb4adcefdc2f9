use Rattle.std.proofs.Common.{◌≡◌, ◌+◌, ◌-◌, ◌^◌, ◌<◌, ◌/◌, arith, subst}
use Rattle.std.proofs.lemmas.Nat.{shr_below}
use Rattle.flac_bits.proofs.TopBits.{on_top}
use Rattle.flac_bits.proofs.window.top.Goals as goal

pub returns-clause-is : goal.returns-clause-is
returns-clause-is c = λ m bits top le. on_top _ m c.args.count bits le top c.requires

pub returns-clause-fits : goal.returns-clause-fits
returns-clause-fits c =
    let k = c.args.count in
    let e : 63 ≡ k + (63 - k) = omega arith in
    shr_below (c.args.word / 2) k (63 - k) (subst (λ n. c.args.word / 2 < 2 ^ n) e (omega arith))
