-- What readers of rows say of the samples before.
use Rattle.std.specs.Prelude.{◌≡◌, ℕ, ◌*◌, ◌^◌, ◌≤◌, ℤ, pos, List, Option, Some, None, Result, Ok, Err, if◌then◌else◌, slice_index_or, unsigned_abs}
use Rattle.spec_flac.specs.Residual.{is_sample}

abbrev pub AreSmall : List ℤ → Type 0
AreSmall zs = (i : ℕ) → unsigned_abs (slice_index_or zs i (pos 0)) ≤ 2 ^ 32

abbrev pub AreWithin : ℤ → List ℤ → Type 0
AreWithin half zs = (i : ℕ) → unsigned_abs (slice_index_or zs i (pos 0)) ≤ unsigned_abs half

abbrev pub sample_or : ℤ → ℤ → Option ℤ
sample_or half z = if is_sample half z then Some z else None

abbrev pub AreBelow : ℕ → List ℤ → Type 0
AreBelow depth zs = (i : ℕ) → 2 * unsigned_abs (slice_index_or zs i (pos 0)) ≤ 2 ^ depth

-- What is left after the place that a reader of a part reached reads as all did, or all has the fault that it answered.
abbrev pub GoesOn : {A F : Type 0} → Result ℕ F → (ℕ → Result A F) → Result A F → Type 0
GoesOn (Ok n) left all = left n ≡ all
GoesOn (Err f) left all = all ≡ Err f
