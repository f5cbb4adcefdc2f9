use Rattle.std.proofs.Common.{◌≡◌, ℕ, ◌^◌, ◌<◌, List, get_or, take, arith, refl, ap, ◌∙◌}
use Rattle.std.proofs.lemmas.List.{take_all}
use Rattle.spec_bits.specs.Bits.{Bits, bits_of, all_bits}
use Rattle.spec_checksums.specs.Polynomials.{poly_16, steps}
use Rattle.flac_checksums.specs.Registers.{register, words_bits}
use Rattle.flac_checksums.proofs.WordBytes.{bytes_of_word}
use Rattle.flac_checksums.proofs.Blocks.{next_word}
use Rattle.flac_checksums.proofs.frame_checksum.of_words.Goals as goal

pub loop-word-init : goal.loop-word-init
unfolding bits_of
loop-word-init c = refl

pub loop-word-preserved : goal.loop-word-preserved
loop-word-preserved c =
    let xs = c.args.words.now in
    let i = c.loop-word.word-index in
    let f = c.type_inv.words i in
    let word = get_or xs i 0 in
    let small : word < 2 ^ 64 = omega (arith, f) in
    c.after-crc.ensures ∙ ap (λ (ys : List ℕ). steps poly_16 (bits_of 16 c.loop-word.crc) (all_bits ys)) c.to_be_bytes.ensures ∙ ap (steps poly_16 (bits_of 16 c.loop-word.crc)) (bytes_of_word word small)
    ∙ ap (λ (r : Bits). steps poly_16 r (bits_of 64 word)) c.loop-word.invariant ∙ next_word xs i c.loop-word-test.true

pub returns : goal.returns
returns c =
    let all : take c.loop-word.word-index c.args.words.now ≡ c.args.words.now = take_all c.loop-word.word-index c.args.words.now c.loop-word-test.false in
    c.loop-word.invariant ∙ ap (λ (xs : List ℕ). register (words_bits xs)) all
