-- The counts of a layer's substreams.
use Rattle.std.proofs.Common.{◌≡◌, ℕ, ◌+◌, ◌-◌, ◌≤◌, refl, arith, eq-eqb}
use Rattle.std.specs.Prelude.{not, ◌&&◌, ◌==◌, false}

-- counts that are those of the pairs and singles pass
pub counts_pass : (pairs singles substreams coupled : ℕ) → coupled ≡ pairs → coupled ≤ substreams → substreams - coupled ≡ singles
    → not (substreams == pairs + singles && coupled == pairs) ≡ false
counts_pass pairs singles substreams coupled c le s =
    rw (eq-eqb substreams (pairs + singles) (omega arith), eq-eqb coupled pairs c) refl
