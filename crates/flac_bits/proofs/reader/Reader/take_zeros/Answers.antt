use Rattle.std.proofs.Common.{refl}
use Rattle.flac_bits.specs.Windows.{place_of}
use Rattle.flac_bits.proofs.FieldsAt.{unary_there, unary_short}
use Rattle.flac_bits.proofs.reader.Reader.take_zeros.Goals as goal

pub returns-in-Some : goal.returns-in-Some
returns-in-Some c =
    let i = c.self.inside in
    let z = c.in-Some.ensures in
    (z.0, rw (← c.self.view_is) (unary_there i.bytes.now (place_of i.window) z.0 (place_of c.in-Some.zeros.window) z.1 z.3), z.2)

pub returns-in-None : goal.returns-in-None
returns-in-None c =
    let i = c.self.inside in
    (rw (← c.self.view_is) (unary_short i.bytes.now (place_of i.window) c.in-None.ensures), refl)
