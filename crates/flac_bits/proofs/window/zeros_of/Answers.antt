use Rattle.flac_bits.proofs.LeadingZeros.{counted, no_ones}
use Rattle.flac_bits.proofs.window.zeros_of.Goals as goal
use Rattle.std.proofs.Common.{◌≡◌, ◌-◌, ◌*◌, ◌+◌, ◌^◌, ◌≤◌, ◌<◌, ℕ, arith, refl, subst}
use Rattle.std.specs.Int.Count.{count_leading_zeros, leading_length}

pub returns-clause-first : goal.returns-clause-first
returns-clause-first c = λ m bits top lt. counted c.args.word m _ bits top refl lt

pub returns-clause-none : goal.returns-clause-none
returns-clause-none c = λ m bits top le. no_ones c.args.word m bits top le

pub returns-clause-large : goal.returns-clause-large
returns-clause-large c =
    let m = leading_length 64 c.args.word (omega arith) in
    let e : m.0 ≡ 64 - count_leading_zeros 64 c.args.word = omega (arith, m.1) in
    subst (λ (j : ℕ). 2 ^ j ≤ 2 * c.args.word + 1) e m.3

pub returns-clause-small : goal.returns-clause-small
returns-clause-small c =
    let m = leading_length 64 c.args.word (omega arith) in
    let e : m.0 ≡ 64 - count_leading_zeros 64 c.args.word = omega (arith, m.1) in
    subst (λ (j : ℕ). c.args.word < 2 ^ j) e m.2
