use Rattle.std.proofs.Common.{◌≡◌, ◌≤◌, ◌-◌, ap, refl, arith}
use Rattle.spec_bits.specs.Cursor.{Cursor, field_at}
use Rattle.iamf_bits.proofs.Place.{leb_found, leb_fails, length-span}
use Rattle.spec_bits.specs.Form.{Leb128}
use Rattle.iamf_bits.proofs.Spelled.{moves_past, has_fault}
use Rattle.iamf_bits.proofs.view.View.take_leb.Goals as goal

pub returns-in-Ok-clause-takes : goal.returns-in-Ok-clause-takes
unfolding field_at
returns-in-Ok-clause-takes c =
    let i = c.self.inside in
    let whole : i.used ≡ 0 = omega (arith, ap (λ (x : Cursor). x.place) c.self.view_is, c.requires, c.self.invariant.0) in
    let few : c.in-Ok.count ≤ i.end - i.at = omega (arith, rw c.as_bytes_below_256.ensures.same at c.in-Ok.ensures.0, length-span i.buffer.now i.at i.end c.self.invariant.1) in
    rw (← c.self.view_is, whole) (leb_found i.buffer.now i.end i.at c.in-Ok.count c.in-Ok.value c.self.invariant.2 c.self.invariant.1 (rw c.as_bytes_below_256.ensures.same at c.as_bytes_below_256.ensures.below) few (rw c.as_bytes_below_256.ensures.same at c.in-Ok.ensures.1)).takes

pub returns-in-Ok-clause-bytes : goal.returns-in-Ok-clause-bytes
returns-in-Ok-clause-bytes c =
    let i = c.self.inside in
    let whole : i.used ≡ 0 = omega (arith, ap (λ (x : Cursor). x.place) c.self.view_is, c.requires, c.self.invariant.0) in
    let few : c.in-Ok.count ≤ i.end - i.at = omega (arith, rw c.as_bytes_below_256.ensures.same at c.in-Ok.ensures.0, length-span i.buffer.now i.at i.end c.self.invariant.1) in
    rw (← c.self.view_is, whole) (leb_found i.buffer.now i.end i.at c.in-Ok.count c.in-Ok.value c.self.invariant.2 c.self.invariant.1 (rw c.as_bytes_below_256.ensures.same at c.as_bytes_below_256.ensures.below) few (rw c.as_bytes_below_256.ensures.same at c.in-Ok.ensures.1)).bytes

pub returns-in-Err-clause-takes : goal.returns-in-Err-clause-takes
unfolding field_at
returns-in-Err-clause-takes c =
    let i = c.self.inside in
    let whole : i.used ≡ 0 = omega (arith, ap (λ (x : Cursor). x.place) c.self.view_is, c.requires, c.self.invariant.0) in
    (rw (← c.self.view_is, whole) (leb_fails i.buffer.now i.end i.at c.in-Err.fault c.self.invariant.2 (rw c.as_bytes_below_256.ensures.same at c.as_bytes_below_256.ensures.below) (rw c.as_bytes_below_256.ensures.same at c.in-Err.ensures)).takes, refl)

pub returns-in-Err-clause-bytes : goal.returns-in-Err-clause-bytes
returns-in-Err-clause-bytes c =
    let i = c.self.inside in
    let whole : i.used ≡ 0 = omega (arith, ap (λ (x : Cursor). x.place) c.self.view_is, c.requires, c.self.invariant.0) in
    rw (← c.self.view_is, whole) (leb_fails i.buffer.now i.end i.at c.in-Err.fault c.self.invariant.2 (rw c.as_bytes_below_256.ensures.same at c.as_bytes_below_256.ensures.below) (rw c.as_bytes_below_256.ensures.same at c.in-Err.ensures)).bytes

pub returns-in-Ok-clause-spelled : goal.returns-in-Ok-clause-spelled
returns-in-Ok-clause-spelled c = moves_past Leb128 _ _ _ (returns-in-Ok-clause-takes c)

pub returns-in-Err-clause-fault : goal.returns-in-Err-clause-fault
returns-in-Err-clause-fault c = has_fault Leb128 _ _ (returns-in-Err-clause-takes c).0
