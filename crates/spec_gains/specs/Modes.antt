-- The demixing modes: IAMF 1.0.0, "Demixing Info Parameter Data", dmixp_mode. Coefficients are in thousandths.
use Rattle.std.specs.Prelude.{◌≡◌, ◌≤◌, ℕ, List, [], ◌∷◌, ℤ, pos, negsuc, Option, Some, None, slice_index_or}
use Rattle.spec_gains.specs.declared.DemixMode.{DemixMode}

-- alpha, beta, gamma and delta of a mode
pub record Coefficients : Type 0 where
  pub alpha : ℕ
  pub beta : ℕ
  pub gamma : ℕ
  pub delta : ℕ

abbrev pub coefficients_of : DemixMode → Coefficients
coefficients_of mode = record { alpha = mode.alpha; beta = mode.beta; gamma = mode.gamma; delta = mode.delta }

abbrev pub row : ℕ → ℕ → ℕ → ℕ → ℤ → Option DemixMode
row alpha beta gamma delta step = Some (record { alpha = alpha; beta = beta; gamma = gamma; delta = delta; step = step })

-- the modes in the order of their codes, from 0; 3 and 7 are reserved
abbrev pub modes : List (Option DemixMode)
modes =
    row 1000 1000 707 707 (negsuc 0)
    ∷ row 707 707 707 707 (negsuc 0)
    ∷ row 1000 866 866 866 (negsuc 0)
    ∷ None
    ∷ row 1000 1000 707 707 (pos 1)
    ∷ row 707 707 707 707 (pos 1)
    ∷ row 1000 866 866 866 (pos 1)
    ∷ None
    ∷ []

abbrev pub mode_of : ℕ → Option DemixMode
mode_of code = slice_index_or modes code None

-- a mode of the table
abbrev pub IsMode : DemixMode → Type 0
IsMode mode = (code : ℕ) × (mode_of code ≡ Some mode)

-- how large coefficients are: alpha and beta at most 1, gamma and delta at most 0.866, and but for alpha none below 0.707
pub record AreBounded (mode : Coefficients) : Type 0 where
  pub alpha : mode.alpha ≤ 1000
  pub beta : mode.beta ≤ 1000
  pub gamma : mode.gamma ≤ 866
  pub delta : mode.delta ≤ 866
  pub least_beta : 707 ≤ mode.beta
  pub least_gamma : 707 ≤ mode.gamma
  pub least_delta : 707 ≤ mode.delta
