use Rattle.std.proofs.Common.{◌<◌, length, drop, arith, refl}
use Rattle.std.proofs.lemmas.List.{length-drop}
use Rattle.spec_bits.specs.Bits.{all_bits}
use Rattle.spec_bits.proofs.BitsLaws.{length-all_bits}
use Rattle.flac_bits.specs.Windows.{place_of}
use Rattle.flac_bits.proofs.FieldsAt.{number_in, number_short}
use Rattle.flac_bits.proofs.reader.Reader.take.Goals as goal

pub returns-then-window-count-clause-takes : goal.returns-then-window-count-clause-takes
returns-then-window-count-clause-takes c =
    let i = c.self.inside in
    let bits = all_bits i.bytes.now in
    let w = c.ready-window in
    let all = w.ensures.enough c.if-window-count.true c.requires in
    let behind = w.ensures.is.behind in
    let few : length (drop (place_of i.window) bits) < c.args.count = omega (arith, length-drop (place_of i.window) bits, length-all_bits i.bytes.now, w.ensures.place, all, behind, c.if-window-count.true) in
    (rw (← c.self.view_is) (number_short i.bytes.now (place_of i.window) c.args.count few), refl)

pub returns-clause-takes : goal.returns-clause-takes
returns-clause-takes c =
    let i = c.self.inside in
    let w = c.ready-window in
    rw (← c.self.view_is)
    (number_in i.bytes.now (place_of i.window) c.args.count c.top.result w.result c.after-self-inside.result w.ensures.place w.ensures.is (omega arith) (c.top.ensures.is w.result.count _ w.ensures.is.top (omega arith)) (c.after-self-inside.ensures.is.place i.bytes.now w.ensures.is))
