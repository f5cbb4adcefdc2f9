use Rattle.iamf_tables.proofs.CodedOrder.{left_at, right_at, single_at}
use Rattle.iamf_tables.proofs.coded.Transmitted.at.Goals as goal

pub returns-then-i-eq0 : goal.returns-then-i-eq0
returns-then-i-eq0 c =
    rw (c.as_slice-pairs.ensures.value, ← c.self.view_is)
    (left_at c.self.inside.pairs.items c.self.inside.singles.items c.args.i _ _
    (rw c.as_slice-pairs.ensures.value at c.if-i-pairs.true) c.if-i-eq0.true)

pub returns-else-i-eq0 : goal.returns-else-i-eq0
returns-else-i-eq0 c =
    rw (c.as_slice-pairs.ensures.value, ← c.self.view_is)
    (right_at c.self.inside.pairs.items c.self.inside.singles.items c.args.i _ _
    (rw c.as_slice-pairs.ensures.value at c.if-i-pairs.true) c.if-i-eq0.false)

pub returns-else-i-pairs : goal.returns-else-i-pairs
returns-else-i-pairs c =
    rw (c.as_slice-pairs.ensures.value, c.as_slice.ensures.value, ← c.self.view_is)
    (single_at c.self.inside.pairs.items c.self.inside.singles.items c.args.i _ _
    (rw c.as_slice-pairs.ensures.value at c.if-i-pairs.false) (rw (← c.self.view_is) at c.requires))
