use Rattle.std.proofs.Common.{◌≡◌, ℕ, ◌*◌, ◌<◌, List, [], ◌++◌, length, ap, sym, ◌∙◌, arith, length-append}
use Rattle.spec_bits.specs.Bits.{Bits, all_bits}
use Rattle.spec_bits.specs.Form.{Bytes}
use Rattle.spec_bits.specs.Cursor.{Cursor, IsOnByte, bits_left, bytes_left, moved}
use Rattle.spec_bits.proofs.BlocksLaws.{bytes_read, bytes_fail}
use Rattle.spec_syntax.proofs.Places.{field_takes}
use Rattle.obu_element_config.proofs.Mapping.{length-left, mapping_reads, mapping_ends, mapping_fails}
use Rattle.obu_element_config.proofs.ambisonics.read_mapping.Goals as goal

pub returns-in_err-mapping : goal.returns-in_err-mapping
returns-in_err-mapping c = absurd (omega (arith, (bytes_fail _ _ _ c.in_err-mapping.ensures.bytes).1, c.min-there.ensures, c.left.ensures))

pub returns-then-not-are_mapped : goal.returns-then-not-are_mapped
returns-then-not-are_mapped c =
    let old = c.args.view.now in
    let new = c.take_bytes.new.self in
    let mapping = c.in_ok-mapping.mapping.now in
    let t = field_takes (Bytes c.min-there.result) old (mapping, new) c.in_ok-mapping.ensures.takes in
    let whole : bits_left old ≡ all_bits mapping ++ bits_left new = t.parts ∙ ap (λ (b : Bits). b ++ bits_left new) t.spells.2 in
    mapping_fails c.args.substreams c.args.outputs old [] mapping (bits_left new) whole (omega (arith, t.spells.0, c.min-there.ensures, c.from-wanted.ensures)) t.spells.1
    (sym c.are_mapped.ensures ∙ c.if-not-are_mapped.true)

pub returns-then-there-wanted : goal.returns-then-there-wanted
returns-then-there-wanted c =
    let old = c.args.view.now in
    let new = c.take_bytes.new.self in
    let mapping = c.in_ok-mapping.mapping.now in
    let t = field_takes (Bytes c.min-there.result) old (mapping, new) c.in_ok-mapping.ensures.takes in
    let whole : bits_left old ≡ all_bits mapping ++ bits_left new = t.parts ∙ ap (λ (b : Bits). b ++ bits_left new) t.spells.2 in
    let on : IsOnByte new = omega (arith, c.requires, ap (λ (x : Cursor). x.place) c.in_ok-mapping.ensures.moves) in
    let parts = (bytes_read c.min-there.result (bytes_left old) (mapping, bytes_left new) c.in_ok-mapping.ensures.bytes).1 in
    let few : length (bits_left new) < 8 =
    omega (arith, length-left new on, ap (λ (xs : List ℕ). length xs) parts, length-append mapping (bytes_left new), t.spells.0, c.min-there.ensures, c.left.ensures, c.from-wanted.ensures, c.if-there-wanted.true) in
    mapping_ends c.args.substreams c.args.outputs old [] mapping (bits_left new) whole few (omega (arith, t.spells.0, c.from-wanted.ensures, c.if-there-wanted.true)) t.spells.1
    (sym c.are_mapped.ensures ∙ c.if-not-are_mapped.false)

pub returns : goal.returns
returns c =
    let old = c.args.view.now in
    let new = c.take_bytes.new.self in
    let mapping = c.in_ok-mapping.mapping.now in
    let t = field_takes (Bytes c.min-there.result) old (mapping, new) c.in_ok-mapping.ensures.takes in
    let whole : bits_left old ≡ all_bits mapping ++ bits_left new = t.parts ∙ ap (λ (b : Bits). b ++ bits_left new) t.spells.2 in
    let on : IsOnByte new = omega (arith, c.requires, ap (λ (x : Cursor). x.place) c.in_ok-mapping.ensures.moves) in
    let all : c.min-there.result ≡ c.args.outputs = omega (arith, c.min-there.ensures, c.from-wanted.ensures, c.if-there-wanted.false) in
    let there : new ≡ moved old (8 * c.args.outputs) = c.in_ok-mapping.ensures.moves ∙ ap (λ (n : ℕ). moved old (8 * n)) all in (
      rw there (mapping_reads c.args.substreams c.args.outputs old [] mapping (bits_left new) whole (t.spells.0 ∙ all) t.spells.1 (sym c.are_mapped.ensures ∙ c.if-not-are_mapped.false)),
      on,
    )
