use Rattle.std.proofs.Common.{◌≡◌, ℕ, ◌+◌, List, ◌∷◌, ◌++◌, length, ap, subst, arith}
use Rattle.std.specs.Prelude.{OnOk}
use Rattle.spec_bits.specs.Bits.{all_bits}
use Rattle.spec_obu.specs.Header.{Head}
use Rattle.spec_obu.specs.Canonical.{canonical_body, canonical_header}
use Rattle.obu_header.specs.View.{head_of}
use Rattle.obu_header.proofs.CanonicalParts.{header_is, body_short, extension_short, lengths_are, is_header, read_back}
use Rattle.obu_header.proofs.writing.put_obu.Goals as goal

pub extension_parts-extension_size-requires : goal.extension_parts-extension_size-requires
extension_parts-extension_size-requires c = extension_short (head_of c.args.head.now) (c.args.front.now ++ c.args.rest.now) c.requires.short

pub returns-clause-read_back : goal.returns-clause-read_back
returns-clause-read_back c = read_back _ _ (is_header _ _ c.requires.kind c.requires.allowed c.trim_numbers-trim_end.ensures.fit c.requires.short)

pub overflow_add-size-4 : goal.overflow_add-size-4
overflow_add-size-4 c =
    let h : Head = head_of c.args.head.now in
    let sizes : length c.as_slice.result.now + length c.as_slice-2.result.now + length c.as_slice-3.result.now + length c.extension_parts-extension_size.result.1.now + length c.args.front.now + length c.args.rest.now ≡ length (canonical_body h (c.args.front.now ++ c.args.rest.now)) =
    rw (c.as_slice.ensures, c.as_slice-2.ensures, c.as_slice-3.ensures) (lengths_are h _ _ _ _ c.args.front.now c.args.rest.now c.trim_numbers-trim_end.ensures.bytes c.extension_parts-extension_size.ensures) in
    omega (arith, sizes, body_short h (c.args.front.now ++ c.args.rest.now) c.requires.short)

pub overflow_add-size-5 : goal.overflow_add-size-5
overflow_add-size-5 c =
    let h : Head = head_of c.args.head.now in
    let sizes : length c.as_slice.result.now + length c.as_slice-2.result.now + length c.as_slice-3.result.now + length c.extension_parts-extension_size.result.1.now + length c.args.front.now + length c.args.rest.now ≡ length (canonical_body h (c.args.front.now ++ c.args.rest.now)) =
    rw (c.as_slice.ensures, c.as_slice-2.ensures, c.as_slice-3.ensures) (lengths_are h _ _ _ _ c.args.front.now c.args.rest.now c.trim_numbers-trim_end.ensures.bytes c.extension_parts-extension_size.ensures) in
    omega (arith, sizes, body_short h (c.args.front.now ++ c.args.rest.now) c.requires.short)

pub overflow_cast-size : goal.overflow_cast-size
overflow_cast-size c =
    let h : Head = head_of c.args.head.now in
    let sizes : length c.as_slice.result.now + length c.as_slice-2.result.now + length c.as_slice-3.result.now + length c.extension_parts-extension_size.result.1.now + length c.args.front.now + length c.args.rest.now ≡ length (canonical_body h (c.args.front.now ++ c.args.rest.now)) =
    rw (c.as_slice.ensures, c.as_slice-2.ensures, c.as_slice-3.ensures) (lengths_are h _ _ _ _ c.args.front.now c.args.rest.now c.trim_numbers-trim_end.ensures.bytes c.extension_parts-extension_size.ensures) in
    omega (arith, sizes, body_short h (c.args.front.now ++ c.args.rest.now) c.requires.short)

pub put_parts-requires-clause-few : goal.put_parts-requires-clause-few
put_parts-requires-clause-few c =
    let h : Head = head_of c.args.head.now in
    let sizes : length c.as_slice.result.now + length c.as_slice-2.result.now + length c.as_slice-3.result.now + length c.extension_parts-extension_size.result.1.now + length c.args.front.now + length c.args.rest.now ≡ length (canonical_body h (c.args.front.now ++ c.args.rest.now)) =
    rw (c.as_slice.ensures, c.as_slice-2.ensures, c.as_slice-3.ensures) (lengths_are h _ _ _ _ c.args.front.now c.args.rest.now c.trim_numbers-trim_end.ensures.bytes c.extension_parts-extension_size.ensures) in
    let whole : c.first_byte.result ∷ c.new.result ++ (c.trim_numbers-trim_end.result.0 ++ (c.trim_numbers-trim_end.result.1 ++ (c.extension_parts-extension_size.result.0 ++ (c.extension_parts-extension_size.result.1.now ++ (c.args.front.now ++ c.args.rest.now))))) ≡ canonical_header h (c.args.front.now ++ c.args.rest.now) =
    rw (c.first_byte.ensures, c.new.ensures) (header_is h c.trim_numbers-trim_end.result.0 c.trim_numbers-trim_end.result.1 c.extension_parts-extension_size.result.0 c.extension_parts-extension_size.result.1.now (c.args.front.now ++ c.args.rest.now) _ c.trim_numbers-trim_end.ensures.bytes c.extension_parts-extension_size.ensures sizes) in
    omega (arith, ap length whole, c.requires.short)

pub returns-clause-bits : goal.returns-clause-bits
returns-clause-bits c =
    let h : Head = head_of c.args.head.now in
    let sizes : length c.as_slice.result.now + length c.as_slice-2.result.now + length c.as_slice-3.result.now + length c.extension_parts-extension_size.result.1.now + length c.args.front.now + length c.args.rest.now ≡ length (canonical_body h (c.args.front.now ++ c.args.rest.now)) =
    rw (c.as_slice.ensures, c.as_slice-2.ensures, c.as_slice-3.ensures) (lengths_are h _ _ _ _ c.args.front.now c.args.rest.now c.trim_numbers-trim_end.ensures.bytes c.extension_parts-extension_size.ensures) in
    let whole : c.first_byte.result ∷ c.new.result ++ (c.trim_numbers-trim_end.result.0 ++ (c.trim_numbers-trim_end.result.1 ++ (c.extension_parts-extension_size.result.0 ++ (c.extension_parts-extension_size.result.1.now ++ (c.args.front.now ++ c.args.rest.now))))) ≡ canonical_header h (c.args.front.now ++ c.args.rest.now) =
    rw (c.first_byte.ensures, c.new.ensures) (header_is h c.trim_numbers-trim_end.result.0 c.trim_numbers-trim_end.result.1 c.extension_parts-extension_size.result.0 c.extension_parts-extension_size.result.1.now (c.args.front.now ++ c.args.rest.now) _ c.trim_numbers-trim_end.ensures.bytes c.extension_parts-extension_size.ensures sizes) in
    subst (λ (bytes : List ℕ). OnOk c.put_parts.result (c.put_parts.new.out.bits ≡ c.args.out.now.bits ++ all_bits bytes)) whole c.put_parts.ensures.bits
