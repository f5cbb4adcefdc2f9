use Rattle.std.proofs.Common.{◌≡◌, ◌<◌, ℕ, length, sym, subst, arith, rules}
use Rattle.spec_obu.specs.Faults.{IsFirstFault}
use Rattle.spec_streams.specs.Front.{IsPartial}
use Rattle.iamf_stream.proofs.Checking.{cut_off, end_fails}
use Rattle.iamf_stream.proofs.open.Open.finish.Goals as goal

pub returns-then-not-is_empty : goal.returns-then-not-is_empty
returns-then-not-is_empty c = λ stream st.
    let some : 0 < length c.args.self.waiting.items = search rules in
    let first : IsPartial c.args.self.waiting.items → IsFirstFault c.cut_fault.result c.args.self.waiting.items = rw (← c.as_slice.ensures) c.cut_fault.ensures in
    rw c.refused.ensures (cut_off c.args.self stream c.cut_fault.result some st first)

pub returns : goal.returns
returns c = λ stream st.
    let none : length c.args.self.waiting.items ≡ 0 = search rules in
    rw c.not_admitted.ensures (end_fails c.args.self stream c.in-Err.error none st c.in-Err.ensures.ends)
