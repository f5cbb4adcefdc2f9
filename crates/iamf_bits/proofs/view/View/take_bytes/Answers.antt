use Rattle.std.proofs.Common.{◌≡◌, ◌≤◌, ◌-◌, ap, refl, arith}
use Rattle.spec_bits.specs.Cursor.{Cursor, field_at}
use Rattle.iamf_bits.proofs.Place.{AreBytes-take, bytes_found, bytes_fail, length-span}
use Rattle.spec_bits.specs.Form.{Bytes}
use Rattle.iamf_bits.proofs.Spelled.{moves_past, has_fault}
use Rattle.iamf_bits.proofs.view.View.take_bytes.Goals as goal

pub returns-then-bytes-n-clause-takes : goal.returns-then-bytes-n-clause-takes
unfolding field_at
returns-then-bytes-n-clause-takes c =
    let i = c.self.inside in
    let whole : i.used ≡ 0 = omega (arith, ap (λ (x : Cursor). x.place) c.self.view_is, c.requires, c.self.invariant.0) in
    (rw (← c.self.view_is, whole) (bytes_fail i.buffer.now i.end i.at c.args.n c.self.invariant.2 (rw c.as_bytes_below_256-bytes.ensures.same at c.as_bytes_below_256-bytes.ensures.below) (rw c.as_bytes_below_256-bytes.ensures.same at c.if-bytes-n.true)).takes, refl)

pub returns-then-bytes-n-clause-bytes : goal.returns-then-bytes-n-clause-bytes
returns-then-bytes-n-clause-bytes c =
    let i = c.self.inside in
    let whole : i.used ≡ 0 = omega (arith, ap (λ (x : Cursor). x.place) c.self.view_is, c.requires, c.self.invariant.0) in
    rw (← c.self.view_is, whole) (bytes_fail i.buffer.now i.end i.at c.args.n c.self.invariant.2 (rw c.as_bytes_below_256-bytes.ensures.same at c.as_bytes_below_256-bytes.ensures.below) (rw c.as_bytes_below_256-bytes.ensures.same at c.if-bytes-n.true)).bytes

pub returns-clause-takes : goal.returns-clause-takes
unfolding field_at
returns-clause-takes c =
    let i = c.self.inside in
    let whole : i.used ≡ 0 = omega (arith, ap (λ (x : Cursor). x.place) c.self.view_is, c.requires, c.self.invariant.0) in
    let few : c.args.n ≤ i.end - i.at = omega (arith, rw c.as_bytes_below_256-bytes.ensures.same at c.if-bytes-n.false, length-span i.buffer.now i.at i.end c.self.invariant.1) in
    rw (c.as_bytes_below_256-bytes.ensures.same, ← c.self.view_is, whole) (bytes_found i.buffer.now i.end i.at c.args.n c.self.invariant.2 c.self.invariant.1 (rw c.as_bytes_below_256-bytes.ensures.same at c.as_bytes_below_256-bytes.ensures.below) few).takes

pub returns-clause-bytes : goal.returns-clause-bytes
returns-clause-bytes c =
    let i = c.self.inside in
    let whole : i.used ≡ 0 = omega (arith, ap (λ (x : Cursor). x.place) c.self.view_is, c.requires, c.self.invariant.0) in
    let few : c.args.n ≤ i.end - i.at = omega (arith, rw c.as_bytes_below_256-bytes.ensures.same at c.if-bytes-n.false, length-span i.buffer.now i.at i.end c.self.invariant.1) in
    rw (c.as_bytes_below_256-bytes.ensures.same, ← c.self.view_is, whole) (bytes_found i.buffer.now i.end i.at c.args.n c.self.invariant.2 c.self.invariant.1 (rw c.as_bytes_below_256-bytes.ensures.same at c.as_bytes_below_256-bytes.ensures.below) few).bytes

pub returns-then-bytes-n-clause-fault : goal.returns-then-bytes-n-clause-fault
returns-then-bytes-n-clause-fault c = has_fault (Bytes c.args.n) _ _ (returns-then-bytes-n-clause-takes c).0

pub returns-clause-spelled : goal.returns-clause-spelled
returns-clause-spelled c = moves_past (Bytes c.args.n) _ _ _ (returns-clause-takes c)

pub returns-clause-below : goal.returns-clause-below
returns-clause-below c = AreBytes-take c.args.n _ c.as_bytes_below_256-bytes.ensures.below
