use Rattle.std.proofs.Common.{◌≡◌, ◌-◌, ◌*◌, length, sym, ap, ◌∙◌, arith}
use Rattle.spec_bits.specs.Cursor.{Cursor, bits_left}
use Rattle.iamf_bits.proofs.Place.{length-bits_left}
use Rattle.iamf_bits.proofs.view.View.left.Goals as goal

pub returns-then-self-eq0-clause-whole : goal.returns-then-self-eq0-clause-whole
returns-then-self-eq0-clause-whole c =
    let i = c.self.inside in
    let l : length (bits_left c.args.self.now) ≡ 8 * (i.end - i.at) - i.used = ap (λ (x : Cursor). length (bits_left x)) (sym c.self.view_is) ∙ length-bits_left i.buffer.now i.end i.at i.used c.self.invariant.2 c.self.invariant.1 in
    omega arith

pub returns-else-self-eq0-clause-whole : goal.returns-else-self-eq0-clause-whole
returns-else-self-eq0-clause-whole c =
    let i = c.self.inside in
    let l : length (bits_left c.args.self.now) ≡ 8 * (i.end - i.at) - i.used = ap (λ (x : Cursor). length (bits_left x)) (sym c.self.view_is) ∙ length-bits_left i.buffer.now i.end i.at i.used c.self.invariant.2 c.self.invariant.1 in
    omega arith
