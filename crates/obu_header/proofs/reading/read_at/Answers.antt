use Rattle.std.proofs.Common.{◌≡◌, ◌+◌, ◌-◌, ◌∙◌, ap, sym, arith, Ok, Err}
use Rattle.spec_bits.specs.Cursor.{Cursor, bytes_left}
use Rattle.spec_obu.specs.Reading.{finish}
use Rattle.obu_header.proofs.Sized.{size_taken, size_fails, too_large, not_allowed, is_part}
use Rattle.obu_header.proofs.FirstBytes.{is_allowed}
use Rattle.obu_header.proofs.reading.read_at.Goals as goal

pub returns-in-Err-clause-exact : goal.returns-in-Err-clause-exact
returns-in-Err-clause-exact c =
    rw (c.unread.ensures, is_allowed c.of-first.ensures c.is_allowed-allowed.ensures) (size_fails c.args.buffer.now c.args.at c.new-view.result c.in-Err.fault c.requires c.new-view.ensures.bytes c.new-view.ensures.place c.in-Err.ensures.bytes)

pub returns-then-at-size-gt-MAX_OBU-clause-exact : goal.returns-then-at-size-gt-MAX_OBU-clause-exact
returns-then-at-size-gt-MAX_OBU-clause-exact c =
    too_large _ _ _ _ _ (size_taken c.args.buffer.now c.args.at c.in-Ok.size c.at.result c.new-view.result c.take_leb.new.self c.requires c.new-view.ensures.bytes c.new-view.ensures.place c.in-Ok.ensures.bytes c.in-Ok.ensures.same c.in-Ok.ensures.onward c.at.ensures.place c.at.ensures.within) c.if-at-size-gt-MAX_OBU.true

pub returns-then-not-allowed-clause-exact : goal.returns-then-not-allowed-clause-exact
returns-then-not-allowed-clause-exact c =
    not_allowed _ _ _ _ _ (size_taken c.args.buffer.now c.args.at c.in-Ok.size c.at.result c.new-view.result c.take_leb.new.self c.requires c.new-view.ensures.bytes c.new-view.ensures.place c.in-Ok.ensures.bytes c.in-Ok.ensures.same c.in-Ok.ensures.onward c.at.ensures.place c.at.ensures.within) c.if-at-size-gt-MAX_OBU.false (sym (is_allowed c.of-first.ensures c.is_allowed-allowed.ensures) ∙ c.if-not-allowed.true)

pub returns-in-Err-take_bytes-clause-exact : goal.returns-in-Err-take_bytes-clause-exact
returns-in-Err-take_bytes-clause-exact c =
    is_part _ _ _ _ _ (size_taken c.args.buffer.now c.args.at c.in-Ok.size c.at.result c.new-view.result c.take_leb.new.self c.requires c.new-view.ensures.bytes c.new-view.ensures.place c.in-Ok.ensures.bytes c.in-Ok.ensures.same c.in-Ok.ensures.onward c.at.ensures.place c.at.ensures.within) c.if-at-size-gt-MAX_OBU.false (sym (is_allowed c.of-first.ensures c.is_allowed-allowed.ensures) ∙ c.if-not-allowed.false)
    (Err c.in-Err-take_bytes.field-0) c.in-Err-take_bytes.ensures.bytes

pub returns-in-Err-read_fields-clause-exact : goal.returns-in-Err-read_fields-clause-exact
returns-in-Err-read_fields-clause-exact c =
    is_part _ _ _ _ _ (size_taken c.args.buffer.now c.args.at c.in-Ok.size c.at.result c.new-view.result c.take_leb.new.self c.requires c.new-view.ensures.bytes c.new-view.ensures.place c.in-Ok.ensures.bytes c.in-Ok.ensures.same c.in-Ok.ensures.onward c.at.ensures.place c.at.ensures.within) c.if-at-size-gt-MAX_OBU.false (sym (is_allowed c.of-first.ensures c.is_allowed-allowed.ensures) ∙ c.if-not-allowed.false)
    (Ok (c.in-Ok-take_bytes.part.now, bytes_left c.take_bytes.new.self)) c.in-Ok-take_bytes.ensures.bytes ∙ ap (finish _) (c.in-Err-read_fields.ensures _ c.of-first.ensures)

pub returns-clause-exact : goal.returns-clause-exact
returns-clause-exact c =
    let len : c.at-end.result - c.args.at ≡ c.at.result - c.args.at + c.in-Ok.size = omega (arith, c.at-end.ensures.place, ap (λ (x : Cursor). x.place) c.in-Ok-take_bytes.ensures.moves, c.at.ensures.place, c.in-Ok.ensures.onward, c.new-view.ensures.place) in
    rw len (is_part _ _ _ _ _ (size_taken c.args.buffer.now c.args.at c.in-Ok.size c.at.result c.new-view.result c.take_leb.new.self c.requires c.new-view.ensures.bytes c.new-view.ensures.place c.in-Ok.ensures.bytes c.in-Ok.ensures.same c.in-Ok.ensures.onward c.at.ensures.place c.at.ensures.within) c.if-at-size-gt-MAX_OBU.false (sym (is_allowed c.of-first.ensures c.is_allowed-allowed.ensures) ∙ c.if-not-allowed.false)
    (Ok (c.in-Ok-take_bytes.part.now, bytes_left c.take_bytes.new.self)) c.in-Ok-take_bytes.ensures.bytes ∙ ap (finish _) (c.in-Ok-read_fields.ensures _ c.of-first.ensures))
