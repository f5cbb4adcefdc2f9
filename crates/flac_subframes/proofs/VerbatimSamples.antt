-- Samples as they are, read one after the other.
use Rattle.std.proofs.Common.{◌≡◌, ℕ, zero, suc, ◌+◌, ◌-◌, ◌*◌, ◌^◌, ◌<◌, ◌≤◌, arith, refl, List, [], ◌∷◌, ◌++◌, unsigned_abs, ap, sym, ◌∙◌, ℤ, Result, Ok, Err}
use Rattle.spec_bits.specs.declared.FieldFault.TheVariants as field_fault
use Rattle.spec_bits.specs.Form.{Signed}
use Rattle.spec_bits.specs.Cursor.{Cursor, field_at}
use Rattle.spec_syntax.specs.Syntax.{each, field}
use Rattle.spec_syntax.specs.Reading.{read}
use Rattle.spec_syntax.proofs.Reading.{each_goes_on, each_steps, each_done}
use Rattle.spec_flac.specs.declared.fault.FlacFault.{FlacFault}
use Rattle.spec_flac.specs.declared.fault.FlacFault.TheVariants as fault
use Rattle.spec_flac.specs.Faults.{short}
use Rattle.spec_flac.specs.Subframe.{verbatim}
use Rattle.flac_subframes.specs.Rows.{AreBelow}

pub verbatim_first : (depth count : ℕ) → verbatim depth count ≡ each (count - 0) (λ _ _. field (Signed depth) []) []
unfolding verbatim
verbatim_first depth count = ap (λ (n : ℕ). each n (λ _ _. field (Signed depth) []) []) (omega arith)

pub verbatim_goes_on : (depth to i : ℕ) (before : List ℤ) (c d : Cursor) (z : ℤ) (total : Result (List ℤ × Cursor) FlacFault) → i < to → field_at (Signed depth) c ≡ Ok (z, d)
    → read short (each (to - i) (λ _ _. field (Signed depth) []) before) c ≡ total → read short (each (to - (i + 1)) (λ _ _. field (Signed depth) []) (before ++ z ∷ [])) d ≡ total
verbatim_goes_on depth to i before c d z total lt e so_far = each_goes_on short (λ _ _. field (Signed depth) []) before to i c d z total lt (rw e refl) so_far

pub verbatim_fails : (depth to i : ℕ) (before : List ℤ) (c : Cursor) (f : FlacFault) (total : Result (List ℤ × Cursor) FlacFault) → i < to → field_at (Signed depth) c ≡ Err field_fault.Short → f ≡ fault.Short
    → read short (each (to - i) (λ _ _. field (Signed depth) []) before) c ≡ total → total ≡ Err f
verbatim_fails depth to i before c f total lt e is so_far = sym so_far ∙ each_steps short (λ _ _. field (Signed depth) []) before to i c lt ∙ rw (e, is) refl

pub verbatim_ends : (depth to i : ℕ) (before : List ℤ) (c : Cursor) (total : Result (List ℤ × Cursor) FlacFault) → to ≤ i → read short (each (to - i) (λ _ _. field (Signed depth) []) before) c ≡ total → total ≡ Ok (before, c)
verbatim_ends depth to i before c total le so_far = each_done short (λ _ _. field (Signed depth) []) before to i c total le so_far

pub below_more : (depth : ℕ) (xs : List ℤ) (z : ℤ) → AreBelow depth xs → 2 * unsigned_abs z ≤ 2 ^ depth → AreBelow depth (xs ++ z ∷ [])
below_more depth [] z small le zero = le
below_more depth [] z small le (suc i) = small i
below_more depth (x ∷ xs) z small le zero = small 0
below_more depth (x ∷ xs) z small le (suc i) = below_more depth xs z (λ j. small (suc j)) le i
