-- The table of a byte's remainders by the polynomial of degree 8, and one byte of that checksum.
use Rattle.std.proofs.Common.{◌≡◌, ℕ, ◌^◌, ◌<◌, Bool, true, [], length, refl, sym, ap, ◌∙◌, arith, bit_xor}
use Rattle.std.specs.Prelude.{slice_index}
use Rattle.std.proofs.lemmas.List.{append-nil}
use Rattle.flac_checksums.specs.declared.header_checksum.TheConstants.{TABLE_8}
use Rattle.spec_bits.specs.Bits.{Bits, zeros, bits_of, number_of}
use Rattle.spec_bits.proofs.BitsLaws.{length-bits_of, length-zeros, number_of-bits_of}
use Rattle.spec_checksums.specs.Polynomials.{◌⊕◌, poly_8, poly_16, steps, remainder, crc_8_of, crc_16_of}
use Rattle.spec_checksums.proofs.Sums.{sum_comm, sum_assoc, sum_self, sum_zeros, zeros_sum, length-sum}
use Rattle.spec_checksums.proofs.Division.{steps_sum, steps_same}
use Rattle.flac_checksums.proofs.Bytes.{bits_xor}
use Rattle.flac_checksums.proofs.Table.{same_bits, same_is, below, below_is, and}

entry_test : ℕ → Bool
entry_test i = same_bits (bits_of 8 (slice_index TABLE_8 i)) (steps (bits_of 8 0x07) (bits_of 8 i) (zeros 8))

all_entries : below 256 entry_test ≡ true
unfolding below entry_test same_bits and bits_of
all_entries = refl

entry_is : (i : ℕ) → i < 256 → bits_of 8 (slice_index TABLE_8 i) ≡ steps poly_8 (bits_of 8 i) (zeros 8)
unfolding entry_test poly_8
entry_is i lt = same_is _ _ (below_is 256 entry_test all_entries i lt)

wide : length poly_8 ≡ 8
unfolding poly_8
wide = length-bits_of 8 0x07

pub wide_16 : length poly_16 ≡ 16
unfolding poly_16
wide_16 = length-bits_of 16 0x8005

-- a register of 8 bits takes 8 more
pub byte_step_8 : (crc byte x t : ℕ) → crc < 2 ^ 8 → byte < 2 ^ 8 → x ≡ bit_xor crc byte → x < 256 → t ≡ slice_index TABLE_8 x
    → bits_of 8 t ≡ steps poly_8 (bits_of 8 crc) (bits_of 8 byte)
byte_step_8 crc byte x t fits small mix below is =
    let cb = bits_of 8 crc in
    let bb = bits_of 8 byte in
    let z = zeros 8 in
    let len_c : length cb ≡ 8 = length-bits_of 8 crc in
    let len_b : length bb ≡ 8 = length-bits_of 8 byte in
    let len_z : length z ≡ 8 = length-zeros 8 in
    let len_x : length (cb ⊕ bb) ≡ 8 = length-sum cb bb (omega arith) ∙ len_b in
    let x_bits : bits_of 8 x ≡ cb ⊕ bb = ap (bits_of 8) mix ∙ bits_xor 8 crc byte fits small in
    let t_bits : bits_of 8 t ≡ steps poly_8 (cb ⊕ bb) z = ap (bits_of 8) is ∙ entry_is x below ∙ ap (λ (b : Bits). steps poly_8 b z) x_bits in
    let lost : steps poly_8 bb bb ≡ z = ap (λ (b : Bits). steps poly_8 b bb) (sym (append-nil bb)) ∙ steps_same poly_8 bb [] (omega (arith, wide)) ∙ ap (λ (n : ℕ). zeros n) len_b in
    let back : bb ⊕ (cb ⊕ bb) ≡ cb = ap (λ (r : Bits). bb ⊕ r) (sum_comm cb bb) ∙ sym (sum_assoc bb bb cb) ∙ ap (λ (r : Bits). r ⊕ cb) (sum_self bb) ∙ zeros_sum (length bb) cb (omega arith) in
    let linear = steps_sum poly_8 bb (cb ⊕ bb) bb z (omega (arith, wide)) (omega (arith, wide)) (omega arith) in
    let len_s : length (steps poly_8 (cb ⊕ bb) z) ≡ 8 = sym (ap length t_bits) ∙ length-bits_of 8 t in
    t_bits ∙ sym (zeros_sum 8 (steps poly_8 (cb ⊕ bb) z) (omega arith)) ∙ ap (λ (r : Bits). r ⊕ steps poly_8 (cb ⊕ bb) z) (sym lost) ∙ sym linear
    ∙ ap (λ (r : Bits). steps poly_8 r (bb ⊕ z)) back ∙ ap (λ (r : Bits). steps poly_8 cb r) (sum_zeros bb 8 (omega arith))

-- the register as a number
pub is_crc_8 : (crc : ℕ) (bits : Bits) → crc < 2 ^ 8 → bits_of 8 crc ≡ steps poly_8 (zeros 8) bits → crc ≡ crc_8_of bits
unfolding crc_8_of remainder
is_crc_8 crc bits fits e = sym (number_of-bits_of 8 crc fits) ∙ ap number_of e ∙ ap (λ (n : ℕ). number_of (steps poly_8 (zeros n) bits)) (sym wide)

pub is_crc_16 : (crc : ℕ) (bits : Bits) → crc < 2 ^ 16 → bits_of 16 crc ≡ steps poly_16 (zeros 16) bits → crc ≡ crc_16_of bits
unfolding crc_16_of remainder
is_crc_16 crc bits fits e = sym (number_of-bits_of 16 crc fits) ∙ ap number_of e ∙ ap (λ (n : ℕ). number_of (steps poly_16 (zeros n) bits)) (sym wide_16)
