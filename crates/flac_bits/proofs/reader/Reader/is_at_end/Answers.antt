use Rattle.std.proofs.Common.{length, arith}
use Rattle.std.proofs.lemmas.Bool.{eq-eqb, eqb-true}
use Rattle.flac_bits.specs.Windows.{place_of}
use Rattle.flac_bits.proofs.FieldsAt.{no_bits, no_bits_left}
use Rattle.flac_bits.proofs.reader.Reader.is_at_end.Goals as goal

pub returns-then-self-eq0 : goal.returns-then-self-eq0
returns-then-self-eq0 c =
    let i = c.self.inside in
    let none = c.if-self-eq0.true in (
      λ t. rw (← c.self.view_is) (no_bits i.bytes.now (place_of i.window) (omega (arith, eqb-true i.window.next (length i.bytes.now) t))),
      λ e. eq-eqb i.window.next (length i.bytes.now) (omega (arith, none, c.self.invariant.within, no_bits_left i.bytes.now (place_of i.window) (rw (← c.self.view_is) at e))),
    )
