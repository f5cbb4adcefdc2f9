-- Rows of samples.
use Rattle.std.proofs.Common.{◌≡◌, ℕ, zero, suc, ◌+◌, ◌-◌, ◌<◌, ◌≤◌, arith, refl, List, [], ◌∷◌, ◌++◌, sym, ◌∙◌, take, length, set, ℤ, pos, unsigned_abs, subst, Result, Ok, Err}
use Rattle.std.proofs.lemmas.List.{take_more, take-set, get_or-set_same, length-set}
use Rattle.spec_bits.specs.Cursor.{Cursor}
use Rattle.spec_syntax.specs.Syntax.{Syntax}
use Rattle.spec_syntax.specs.Reading.{read}
use Rattle.spec_syntax.proofs.Reading.{each_steps, each_goes_on, each_done}
use Rattle.spec_flac.specs.declared.fault.FlacFault.{FlacFault}
use Rattle.spec_flac.specs.Faults.{short}
use Rattle.spec_flac.specs.Residual.{sample, samples}
use Rattle.flac_subframes.specs.Rows.{AreWithin}

pub take_written : (xs : List ℤ) (n : ℕ) (z : ℤ) → n < length xs → take (n + 1) (set xs n z) ≡ take n xs ++ z ∷ []
take_written xs n z lt =
    take_more (set xs n z) n (pos 0) (omega (arith, length-set {A = ℤ})) ∙ rw (take-set xs n z, get_or-set_same) refl

small_more : (half : ℤ) (xs : List ℤ) (z : ℤ) → AreWithin half xs → unsigned_abs z ≤ unsigned_abs half → AreWithin half (xs ++ z ∷ [])
small_more half [] z small le zero = le
small_more half [] z small le (suc i) = small i
small_more half (x ∷ xs) z small le zero = small 0
small_more half (x ∷ xs) z small le (suc i) = small_more half xs z (λ j. small (suc j)) le i

pub small_written : (half : ℤ) (xs : List ℤ) (n : ℕ) (z : ℤ) → n < length xs → AreWithin half (take n xs) → unsigned_abs z ≤ unsigned_abs half → AreWithin half (take (n + 1) (set xs n z))
small_written half xs n z lt small le = subst (AreWithin half) (sym (take_written xs n z lt)) (small_more half (take n xs) z small le)

pub samples_go_on : (half : ℤ) (residual : Syntax FlacFault ℤ) (predict : List ℤ → ℤ) (before : List ℤ) (to i : ℕ) (c d : Cursor) (p z : ℤ) (total : Result (List ℤ × Cursor) FlacFault) → i < to → p ≡ predict before
    → read short (sample half residual p) c ≡ Ok (z, d) → read short (samples half residual predict (to - i) before) c ≡ total
    → read short (samples half residual predict (to - (i + 1)) (before ++ z ∷ [])) d ≡ total
unfolding samples
samples_go_on half residual predict before to i c d p z total lt is one so_far =
    each_goes_on short (λ _ zs. sample half residual (predict zs)) before to i c d z total lt (subst (λ (q : ℤ). read short (sample half residual q) c ≡ Ok (z, d)) is one) so_far

pub samples_fail : (half : ℤ) (residual : Syntax FlacFault ℤ) (predict : List ℤ → ℤ) (before : List ℤ) (to i : ℕ) (c : Cursor) (p : ℤ) (f : FlacFault) (total : Result (List ℤ × Cursor) FlacFault) → i < to → p ≡ predict before
    → read short (sample half residual p) c ≡ Err f → read short (samples half residual predict (to - i) before) c ≡ total → total ≡ Err f
unfolding samples
samples_fail half residual predict before to i c p f total lt is one so_far =
    let e : read short (sample half residual (predict before)) c ≡ Err f = subst (λ (q : ℤ). read short (sample half residual q) c ≡ Err f) is one in
    sym so_far ∙ each_steps short (λ _ zs. sample half residual (predict zs)) before to i c lt ∙ rw e refl

pub samples_done : (half : ℤ) (residual : Syntax FlacFault ℤ) (predict : List ℤ → ℤ) (before : List ℤ) (to i : ℕ) (c : Cursor) (total : Result (List ℤ × Cursor) FlacFault) → to ≤ i
    → read short (samples half residual predict (to - i) before) c ≡ total → total ≡ Ok (before, c)
unfolding samples
samples_done half residual predict before to i c total le so_far = each_done short (λ _ zs. sample half residual (predict zs)) before to i c total le so_far
