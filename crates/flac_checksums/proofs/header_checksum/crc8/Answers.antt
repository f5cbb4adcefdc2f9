use Rattle.std.proofs.Common.{◌≡◌, ℕ, ◌+◌, ◌<◌, List, [], ◌∷◌, ◌++◌, take, length, get_or, arith, refl, ap, sym, ◌∙◌, bit_xor}
use Rattle.std.proofs.lemmas.Nat.{xor_lt}
use Rattle.std.proofs.lemmas.List.{take_more, append-nil, take_all}
use Rattle.spec_bits.specs.Bits.{Bits, all_bits, bits_of, zeros}
use Rattle.spec_checksums.specs.Polynomials.{poly_8, steps}
use Rattle.spec_bits.proofs.BitsLaws.{all_bits-append}
use Rattle.spec_checksums.proofs.Division.{steps_append}
use Rattle.flac_checksums.proofs.Table8.{byte_step_8, is_crc_8}
use Rattle.flac_checksums.proofs.header_checksum.crc8.Goals as goal

pub loop-byte-init : goal.loop-byte-init
unfolding bits_of all_bits
loop-byte-init c = refl

one : (xs : List ℕ) (i : ℕ) → i < length xs → all_bits (take (i + 1) xs) ≡ all_bits (take i xs) ++ bits_of 8 (get_or xs i 0)
unfolding all_bits
one xs i lt = ap all_bits (take_more xs i 0 lt) ∙ all_bits-append (take i xs) (get_or xs i 0 ∷ []) ∙ ap (λ (b : Bits). all_bits (take i xs) ++ b) (append-nil (bits_of 8 (get_or xs i 0)))

pub loop-byte-preserved : goal.loop-byte-preserved
loop-byte-preserved c =
    let xs = c.args.bytes.now in
    let i = c.loop-byte.byte-index in
    let f = c.type_inv.bytes i in
    let x = bit_xor c.loop-byte.crc (get_or xs i 0) in
    byte_step_8 c.loop-byte.crc (get_or xs i 0) x c.entry-crc.result (omega (arith, c.loop-byte.auto.crc-fits)) (omega arith) refl (xor_lt 8 c.loop-byte.crc (get_or xs i 0) (omega (arith, c.loop-byte.auto.crc-fits)) (omega arith)) c.entry-crc.ensures
    ∙ ap (λ (r : Bits). steps poly_8 r (bits_of 8 (get_or xs i 0))) c.loop-byte.invariant
    ∙ sym (steps_append poly_8 (zeros 8) (all_bits (take i xs)) (bits_of 8 (get_or xs i 0)))
    ∙ ap (steps poly_8 (zeros 8)) (sym (one xs i c.loop-byte-test.true))

pub returns : goal.returns
returns c =
    let e : take c.loop-byte.byte-index c.args.bytes.now ≡ c.args.bytes.now = take_all c.loop-byte.byte-index c.args.bytes.now c.loop-byte-test.false in
    let is : bits_of 8 c.loop-byte.crc ≡ steps poly_8 (zeros 8) (all_bits c.args.bytes.now) = c.loop-byte.invariant ∙ ap (λ (xs : List ℕ). steps poly_8 (zeros 8) (all_bits xs)) e in
    is_crc_8 c.loop-byte.crc (all_bits c.args.bytes.now) (omega (arith, c.loop-byte.auto.crc-fits)) is
