use Rattle.std.proofs.Common.{◌≡◌, ◌*◌, ◌/◌, ℕ, List, take, drop, length, arith, ap, ◌∙◌}
use Rattle.std.proofs.lemmas.List.{take_all}
use Rattle.spec_bits.specs.Bits.{Bits, all_bits}
use Rattle.spec_checksums.specs.Polynomials.{poly_16, steps}
use Rattle.flac_checksums.specs.Registers.{register}
use Rattle.flac_checksums.proofs.Blocks.{nothing_yet, next_block}
use Rattle.flac_checksums.proofs.fold.folded.Goals as goal

pub loop-round-init : goal.loop-round-init
loop-round-init c = nothing_yet c.args.bytes.now

pub loop-round-preserved : goal.loop-round-preserved
loop-round-preserved c =
    c.after_round-words.ensures ∙ ap (λ (r : Bits). steps poly_16 r (all_bits (take 128 (drop (128 * c.loop-round.round) c.args.bytes.now)))) c.loop-round.invariant ∙ next_block c.args.bytes.now 128 c.loop-round.round

pub loop-block-init : goal.loop-block-init
loop-block-init c =
    let same : 128 * c.loop-round.round ≡ 32 * (4 * (length c.args.bytes.now / 128)) = omega arith in
    c.loop-round.invariant ∙ ap (λ (n : ℕ). register (all_bits (take n c.args.bytes.now))) same

pub loop-block-preserved : goal.loop-block-preserved
loop-block-preserved c =
    c.stepped-words.ensures ∙ ap (λ (r : Bits). steps poly_16 r (all_bits (take 32 (drop (32 * c.loop-block.block) c.args.bytes.now)))) c.loop-block.invariant ∙ next_block c.args.bytes.now 32 c.loop-block.block

pub returns : goal.returns
returns c =
    let all : take (32 * c.loop-block.block) c.args.bytes.now ≡ c.args.bytes.now = take_all (32 * c.loop-block.block) c.args.bytes.now (omega arith) in
    c.loop-block.invariant ∙ ap (λ (xs : List ℕ). register (all_bits xs)) all
