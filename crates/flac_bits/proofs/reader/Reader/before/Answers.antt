use Rattle.std.proofs.Common.{◌≡◌, ◌-◌, ◌/◌, arith, ap, sym, ◌∙◌}
use Rattle.spec_bits.specs.Cursor.{Cursor, bits_before}
use Rattle.flac_bits.specs.Windows.{place_of}
use Rattle.flac_bits.proofs.FieldsAt.{before_bytes}
use Rattle.flac_bits.proofs.reader.Reader.before.Goals as goal

pub returns : goal.returns
returns c =
    let i = c.self.inside in
    let behind = c.self.invariant.behind in
    let at : c.args.self.now.place ≡ place_of i.window = ap (λ (d : Cursor). d.place) (sym c.self.view_is) in
    before_bytes i.bytes.now (place_of i.window) (i.window.next - i.window.count / 8) (omega (arith, at, c.requires, behind)) (omega arith) ∙ ap bits_before c.self.view_is
