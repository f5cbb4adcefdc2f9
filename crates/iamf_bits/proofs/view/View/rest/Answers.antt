use Rattle.std.proofs.Common.{◌≡◌, ap, sym, arith}
use Rattle.spec_bits.specs.Cursor.{Cursor}
use Rattle.iamf_bits.proofs.Place.{bits_left-bytes}
use Rattle.iamf_bits.proofs.view.View.rest.Goals as goal

pub returns-clause-bits : goal.returns-clause-bits
returns-clause-bits c =
    let i = c.self.inside in
    let whole : i.used ≡ 0 = omega (arith, ap (λ (x : Cursor). x.place) c.self.view_is, c.requires, c.self.invariant.0) in
    rw (c.as_bytes_below_256-bytes.ensures.same, ← c.self.view_is, whole) (sym (bits_left-bytes i.buffer.now i.end i.at c.self.invariant.2))
