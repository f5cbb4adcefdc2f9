-- How many subblocks of one length a duration has, and how many bits are 1.
use Rattle.std.proofs.Common.{◌≡◌, ℕ, ◌+◌, ◌/◌, ◌%◌, ◌^◌, ◌<◌, min, refl, sym, ap, ◌∙◌, add-one, arith}
use Rattle.std.proofs.Math.Nat.{div-div-eq-div-mul}
use Rattle.std.proofs.lemmas.Nat.{pow-add}
use Rattle.spec_blocks.specs.ParameterBlock.{subblocks_in, ones_below}

pub subblocks_rounded : (duration constant : ℕ) → 0 < constant → duration / constant + min 1 (duration % constant) ≡ subblocks_in duration constant
subblocks_rounded duration constant some = grind arith

pub ones_next : (i bits : ℕ) → ones_below (i + 1) bits ≡ ones_below i bits + bits / 2 ^ i % 2
ones_next i bits = rw (add-one i) refl

pub half_more : (i bits : ℕ) → bits / 2 ^ i / 2 ≡ bits / 2 ^ (i + 1)
half_more i bits = div-div-eq-div-mul bits (2 ^ i) 2 ∙ ap (λ (n : ℕ). bits / n) (sym (pow-add 2 i 1))
