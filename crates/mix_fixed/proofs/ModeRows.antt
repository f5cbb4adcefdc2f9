-- Which coefficients stand together in the modes of the table.
use Rattle.std.proofs.Common.{arith, ◌≡◌, refl}
use Rattle.spec_gains.specs.declared.DemixMode.{DemixMode}
use Rattle.spec_gains.specs.Modes.{Coefficients, coefficients_of, IsMode}
use Rattle.spec_gains.proofs.ModeLemmas.{Row, Zero, One, Two, of, row_is}

-- gamma and delta, by beta
pub record IsInRow (mode : Coefficients) : Type 0 where
  pub same : mode.delta ≡ mode.gamma
  pub most : mode.beta ≡ 866 → mode.gamma ≡ 866
  pub other : (mode.beta ≡ 866 → ⊥) → mode.gamma ≡ 707

in_row : (row : Row) → IsInRow (of row)
in_row Zero = record { same = refl; most = λ e. absurd (omega (arith, e)); other = λ n. refl }
in_row One = record { same = refl; most = λ e. absurd (omega (arith, e)); other = λ n. refl }
in_row Two = record { same = refl; most = λ e. refl; other = λ n. absurd (n refl) }

pub mode_in_row : (mode : DemixMode) → IsMode mode → IsInRow (coefficients_of mode)
mode_in_row mode m = let r = row_is mode m in rw (r.1) (in_row r.0)
