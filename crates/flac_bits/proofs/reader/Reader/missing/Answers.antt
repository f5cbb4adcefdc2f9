use Rattle.std.proofs.Common.{◌≡◌, length, arith, ap, sym, ◌∙◌}
use Rattle.spec_bits.specs.Cursor.{Cursor, bits_before}
use Rattle.flac_bits.specs.Windows.{place_of}
use Rattle.flac_bits.proofs.FieldsAt.{length_before}
use Rattle.flac_bits.proofs.reader.Reader.missing.Goals as goal

pub returns-clause-is : goal.returns-clause-is
returns-clause-is c =
    let i = c.self.inside in
    let behind = c.self.invariant.behind in
    let within = c.self.invariant.within in
    let len : length (bits_before c.args.self.now) ≡ place_of i.window = ap (λ (d : Cursor). length (bits_before d)) (sym c.self.view_is) ∙ length_before i.bytes.now (place_of i.window) (omega arith) in
    omega (arith, len)

pub returns-clause-whole : goal.returns-clause-whole
returns-clause-whole c =
    let behind = c.self.invariant.behind in
    let at : c.args.self.now.place ≡ place_of c.self.inside.window = ap (λ (d : Cursor). d.place) (sym c.self.view_is) in
    omega (arith, at)
