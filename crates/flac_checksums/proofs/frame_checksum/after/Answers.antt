use Rattle.std.proofs.Common.{◌≡◌, ℕ, ◌+◌, ◌<◌, List, [], ◌∷◌, ◌++◌, take, length, get_or, arith, refl, ap, sym, ◌∙◌, bit_xor, ◌/◌}
use Rattle.std.specs.Prelude.{slice_index}
use Rattle.flac_checksums.specs.declared.frame_checksum.TheConstants.{TABLE_16}
use Rattle.std.proofs.lemmas.List.{take_more, append-nil, take_all}
use Rattle.spec_bits.specs.Bits.{Bits, all_bits, bits_of}
use Rattle.spec_checksums.specs.Polynomials.{poly_16, steps}
use Rattle.spec_bits.proofs.BitsLaws.{all_bits-append}
use Rattle.spec_checksums.proofs.Division.{steps_append}
use Rattle.flac_checksums.proofs.Table.{byte_step}
use Rattle.flac_checksums.proofs.frame_checksum.after.Goals as goal

pub loop-byte-init : goal.loop-byte-init
unfolding all_bits
loop-byte-init c = refl

one : (xs : List ℕ) (i : ℕ) → i < length xs → all_bits (take (i + 1) xs) ≡ all_bits (take i xs) ++ bits_of 8 (get_or xs i 0)
unfolding all_bits
one xs i lt = ap all_bits (take_more xs i 0 lt) ∙ all_bits-append (take i xs) (get_or xs i 0 ∷ []) ∙ ap (λ (b : Bits). all_bits (take i xs) ++ b) (append-nil (bits_of 8 (get_or xs i 0)))

pub loop-byte-preserved : goal.loop-byte-preserved
loop-byte-preserved c =
    let xs = c.args.bytes.now in
    let i = c.loop-byte.byte-index in
    let f = c.type_inv.bytes i in
    let g = c.entry.type_inv in
    byte_step c.loop-byte.crc (get_or xs i 0) c.entry.result (omega (arith, c.loop-byte.auto.crc-fits)) (omega arith) (omega arith) (c.entry.ensures ∙ ap (λ (y : ℕ). slice_index TABLE_16 (bit_xor (c.loop-byte.crc / 256) y)) c.from.ensures)
    ∙ ap (λ (r : Bits). steps poly_16 r (bits_of 8 (get_or xs i 0))) c.loop-byte.invariant
    ∙ sym (steps_append poly_16 (bits_of 16 c.args.crc) (all_bits (take i xs)) (bits_of 8 (get_or xs i 0)))
    ∙ ap (steps poly_16 (bits_of 16 c.args.crc)) (sym (one xs i c.loop-byte-test.true))

pub returns : goal.returns
returns c =
    let e : take c.loop-byte.byte-index c.args.bytes.now ≡ c.args.bytes.now = take_all c.loop-byte.byte-index c.args.bytes.now c.loop-byte-test.false in
    c.loop-byte.invariant ∙ ap (λ (xs : List ℕ). steps poly_16 (bits_of 16 c.args.crc) (all_bits xs)) e
