-- The bytes of a sample, as the definition and as the code take them.
use Rattle.std.proofs.Common.{◌≡◌, ℕ, ◌+◌, ◌-◌, ◌*◌, ◌/◌, Bool, List, take, drop, ℤ, to_z, of_z, FitsSigned, w32, sym, ap, ◌∙◌, arith}
use Rattle.std.proofs.lemmas.Int.{to_z-of_z}
use Rattle.spec_samples.specs.Lpcm.{signed_number, sample}

pub number_is_sample : (frame : List ℕ) (little : Bool) (depth channels n c k size : ℕ) (z : ℤ) → depth ≡ k → size ≡ depth / 8 → FitsSigned w32 z
    → z ≡ signed_number little k (take ((n * channels + c) * size + size - (n * channels + c) * size) (drop ((n * channels + c) * size) frame))
    → to_z w32 (of_z w32 z) ≡ sample frame little depth channels n c
unfolding sample
number_is_sample frame little depth channels n c k size z e f fits is =
    let count : (n * channels + c) * size + size - (n * channels + c) * size ≡ size = omega arith in
    to_z-of_z w32 z fits ∙ is ∙ ap (λ (m : ℕ). signed_number little k (take m (drop ((n * channels + c) * size) frame))) count
    ∙ ap (λ (m : ℕ). signed_number little k (take m (drop ((n * channels + c) * m) frame))) f ∙ ap (λ (m : ℕ). signed_number little m (take (depth / 8) (drop ((n * channels + c) * (depth / 8)) frame))) (sym e)
