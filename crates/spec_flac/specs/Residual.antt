-- RFC 9639, section 9.2.7 (coded residual), and the samples that the residuals give.
use Rattle.std.specs.Prelude.{ℕ, ◌+◌, ◌-◌, ◌*◌, ◌/◌, ◌%◌, ◌^◌, ℤ, pos, negsuc, neg_ℤ, ◌+ℤ◌, Bool, not, ◌&&◌, List, [], ◌∷◌, length, if◌then◌else◌, nat_le, nat_lt, ◌==◌, unsigned_abs, int_lt, int_le}
use Rattle.spec_bits.specs.Form.{Number, Signed, Unary}
use Rattle.spec_syntax.specs.Syntax.{Syntax, End, Choice, field, check, refuse, each, in_turn, ◌>>=◌, ◌>>◌}
use Rattle.spec_flac.specs.declared.fault.FlacFault.{FlacFault}
use Rattle.spec_flac.specs.declared.fault.FlacFault.TheVariants as fault

-- the number that a folded one stands for
abbrev pub unfolded : ℕ → ℤ
unfolded u = if u % 2 == 0 then pos (u / 2) else negsuc (u / 2)

abbrev pub is_large : ℤ → Bool
is_large z = nat_le (2 ^ 31) (unsigned_abs z)

-- the number is a sample, where half of them are below zero
abbrev pub is_sample : ℤ → ℤ → Bool
is_sample half z = int_le (neg_ℤ half) z && int_lt z half

-- ---- 9.2.7.2: a Rice code of so many low bits

unfoldable pub coded_residual : ℕ → Syntax FlacFault ℤ
coded_residual k = do
  quotient ← field Unary []
  remainder ← field (Number k) (refuse fault.Residual (λ l. is_large (unfolded (quotient * 2 ^ k + l))) ∷ [])
  End (unfolded (quotient * 2 ^ k + remainder))

-- ---- 9.2.7.1: an escape, with residuals of so many bits

unfoldable pub plain_residual : ℕ → Syntax FlacFault ℤ
plain_residual width = field (Signed width) []

-- ---- 9.2.7: partitions

-- a sample that is predicted to be p
unfoldable pub sample : ℤ → Syntax FlacFault ℤ → ℤ → Syntax FlacFault ℤ
sample half residual p = do
  r ← residual
  check fault.Range (not (is_sample half (p +ℤ r)))
  End (p +ℤ r)

-- so many samples, each predicted from those before it
unfoldable pub samples : ℤ → Syntax FlacFault ℤ → (List ℤ → ℤ) → ℕ → List ℤ → Syntax FlacFault (List ℤ)
samples half residual predict count before = each count (λ _ zs. sample half residual (predict zs)) before

-- a partition, whose last sample stands before the place `to`
unfoldable pub partition : ℤ → (List ℤ → ℤ) → ℕ → ℕ → List ℤ → Syntax FlacFault (List ℤ)
partition half predict parameter_bits to before = do
  parameter ← field (Number parameter_bits) []
  Choice (parameter == 2 ^ parameter_bits - 1) (do
    width ← field (Number 5) []
    samples half (plain_residual width) predict (to - length before) before)
      (samples half (coded_residual parameter) predict (to - length before) before)

-- so many partitions, each up to a multiple of its size
unfoldable pub partitions : ℤ → (List ℤ → ℤ) → ℕ → ℕ → ℕ → List ℤ → Syntax FlacFault (List ℤ)
partitions half predict parameter_bits size count before = in_turn count (λ later zs. partition half predict parameter_bits (size * (count - later)) zs) before

-- the samples after so many warm-up samples
unfoldable pub residual : ℤ → (List ℤ → ℤ) → ℕ → List ℤ → Syntax FlacFault (List ℤ)
residual half predict block_size warm_up = do
  coding_method ← field (Number 2) (refuse fault.Residual (λ m. nat_lt 1 m) ∷ [])
  order ← field (Number 4) (
      refuse fault.Residual (λ p. not (block_size % 2 ^ p == 0))
      ∷ refuse fault.Residual (λ p. nat_lt (block_size / 2 ^ p) (length warm_up))
      ∷ [])
  partitions half predict (coding_method + 4) (block_size / 2 ^ order) (2 ^ order) warm_up
