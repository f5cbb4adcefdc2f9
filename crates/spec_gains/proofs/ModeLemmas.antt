-- What holds of each row of the tables of modes and weights.
use Rattle.std.proofs.Common.{arith, ◌≡◌, ◌≢◌, ◌<◌, ◌≤◌, ℕ, zero, suc, pos, negsuc, ℤ, refl, Some, None, Option, option_map, ap, slice_index, min}
use Rattle.spec_gains.specs.declared.DemixMode.{DemixMode}
use Rattle.spec_gains.specs.Modes.{Coefficients, coefficients_of, mode_of, IsMode, AreBounded}
use Rattle.spec_gains.specs.Weights.{weights, weight_of}

-- the three rows of coefficients
pub data Row : Type 0 where
  Zero : Row
  One : Row
  Two : Row

abbrev pub alpha_of : Row → ℕ
alpha_of Zero = 1000
alpha_of One = 707
alpha_of Two = 1000

abbrev pub beta_of : Row → ℕ
beta_of Zero = 1000
beta_of One = 707
beta_of Two = 866

abbrev pub gamma_of : Row → ℕ
gamma_of Zero = 707
gamma_of One = 707
gamma_of Two = 866

abbrev pub delta_of : Row → ℕ
delta_of Zero = 707
delta_of One = 707
delta_of Two = 866

abbrev pub of : Row → Coefficients
of row = record { alpha = alpha_of row; beta = beta_of row; gamma = gamma_of row; delta = delta_of row }

row_at : (code : ℕ) (mode : DemixMode) → mode_of code ≡ Some mode → (row : Row) × (coefficients_of mode ≡ of row)
row_at zero mode e = (Zero, cc)
row_at (suc zero) mode e = (One, cc)
row_at (suc (suc zero)) mode e = (Two, cc)
row_at (suc (suc (suc zero))) mode e = cc
row_at (suc (suc (suc (suc zero)))) mode e = (Zero, cc)
row_at (suc (suc (suc (suc (suc zero))))) mode e = (One, cc)
row_at (suc (suc (suc (suc (suc (suc zero)))))) mode e = (Two, cc)
row_at (suc (suc (suc (suc (suc (suc (suc n))))))) mode e = absurd (past n e)
  where
    past : (n : ℕ) → mode_of (suc (suc (suc (suc (suc (suc (suc n))))))) ≡ Some mode → ⊥
    past zero e = cc
    past (suc n) e = cc

-- the coefficients of a mode of the table are a row's
pub row_is : (mode : DemixMode) → IsMode mode → (row : Row) × (coefficients_of mode ≡ of row)
row_is mode m = row_at m.0 mode m.1

alpha_most : (row : Row) → alpha_of row ≤ 1000
alpha_most Zero = omega arith
alpha_most One = omega arith
alpha_most Two = omega arith

beta_most : (row : Row) → beta_of row ≤ 1000
beta_most Zero = omega arith
beta_most One = omega arith
beta_most Two = omega arith

beta_least : (row : Row) → 707 ≤ beta_of row
beta_least Zero = omega arith
beta_least One = omega arith
beta_least Two = omega arith

gamma_most : (row : Row) → gamma_of row ≤ 866
gamma_most Zero = omega arith
gamma_most One = omega arith
gamma_most Two = omega arith

gamma_least : (row : Row) → 707 ≤ gamma_of row
gamma_least Zero = omega arith
gamma_least One = omega arith
gamma_least Two = omega arith

delta_most : (row : Row) → delta_of row ≤ 866
delta_most Zero = omega arith
delta_most One = omega arith
delta_most Two = omega arith

delta_least : (row : Row) → 707 ≤ delta_of row
delta_least Zero = omega arith
delta_least One = omega arith
delta_least Two = omega arith

pub row_bounded : (row : Row) → AreBounded (of row)
row_bounded row = record {
  alpha = alpha_most row;
  beta = beta_most row;
  gamma = gamma_most row;
  delta = delta_most row;
  least_beta = beta_least row;
  least_gamma = gamma_least row;
  least_delta = delta_least row;
}

pub mode_bounded : (mode : DemixMode) → IsMode mode → AreBounded (coefficients_of mode)
mode_bounded mode m = let r = row_is mode m in rw (r.1) (row_bounded r.0)

weight_at : (k : ℕ) → slice_index weights k ≤ 5000
weight_at zero = omega arith
weight_at (suc zero) = omega arith
weight_at (suc (suc zero)) = omega arith
weight_at (suc (suc (suc zero))) = omega arith
weight_at (suc (suc (suc (suc zero)))) = omega arith
weight_at (suc (suc (suc (suc (suc zero))))) = omega arith
weight_at (suc (suc (suc (suc (suc (suc zero)))))) = omega arith
weight_at (suc (suc (suc (suc (suc (suc (suc zero))))))) = omega arith
weight_at (suc (suc (suc (suc (suc (suc (suc (suc zero)))))))) = omega arith
weight_at (suc (suc (suc (suc (suc (suc (suc (suc (suc zero))))))))) = omega arith
weight_at (suc (suc (suc (suc (suc (suc (suc (suc (suc (suc zero)))))))))) = omega arith
weight_at (suc (suc (suc (suc (suc (suc (suc (suc (suc (suc (suc n))))))))))) = omega arith

pub weight_most : (index : ℕ) → weight_of index ≤ 5000
weight_most index = weight_at (min index 10)
