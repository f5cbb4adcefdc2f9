-- Reading one sample.
use Rattle.std.proofs.Common.{◌≡◌, ℕ, ◌*◌, ◌^◌, ◌≤◌, ◌<◌, refl, Result, Ok, Err, Some, None, Bool, true, false, not, cond, ap, sym, ◌∙◌, ℤ, ◌+ℤ◌, unsigned_abs, arith}
use Rattle.std.proofs.lemmas.Nat.{pow_below}
use Rattle.spec_bits.specs.declared.FieldFault.TheVariants as field
use Rattle.spec_bits.specs.Form.{Signed}
use Rattle.spec_bits.specs.Cursor.{Cursor, field_at}
use Rattle.spec_syntax.specs.Syntax.{Syntax, End, Check}
use Rattle.spec_syntax.specs.Reading.{read, chain}
use Rattle.spec_syntax.proofs.Reading.{read_bind}
use Rattle.spec_flac.specs.declared.fault.FlacFault.{FlacFault}
use Rattle.spec_flac.specs.declared.fault.FlacFault.TheVariants as fault
use Rattle.spec_flac.specs.Faults.{short}
use Rattle.spec_flac.specs.Residual.{is_sample, sample, plain_residual}
use Rattle.flac_subframes.specs.Rows.{sample_or}

record Chosen (b : Bool) (z y : ℤ) : Type 0 where
  yes : b ≡ true
  same : z ≡ y

chosen : (b : Bool) (z y : ℤ) → Some z ≡ cond b (Some y) None → Chosen b z y
chosen true z y e = record { yes = refl; same = cc }
chosen false z y e = absurd (never z e)
  where
    never : (x : ℤ) → Some x ≡ None → ⊥
    never x e = cc

left_out : (b : Bool) (y : ℤ) → None ≡ cond b (Some y) None → b ≡ false
left_out true y e = cc
left_out false y e = refl

abbrev then : ℤ → ℤ → ℤ → Syntax FlacFault ℤ
then half p r = Check (not (is_sample half (p +ℤ r))) fault.Range (End (p +ℤ r))

after_residual : (half p : ℤ) (residual : Syntax FlacFault ℤ) (c : Cursor) (r : Result (ℤ × Cursor) FlacFault) → read short residual c ≡ r → read short (sample half residual p) c ≡ chain r (λ x. read short (then half p x.0) x.1)
unfolding sample
after_residual half p residual c r e = read_bind short residual (then half p) c ∙ ap (λ (q : Result (ℤ × Cursor) FlacFault). chain q (λ x. read short (then half p x.0) x.1)) e

pub sample_ok : (half p r z : ℤ) (residual : Syntax FlacFault ℤ) (c d : Cursor) → read short residual c ≡ Ok (r, d) → Some z ≡ sample_or half (p +ℤ r) → read short (sample half residual p) c ≡ Ok (z, d)
sample_ok half p r z residual c d e is =
    let x = chosen (is_sample half (p +ℤ r)) z (p +ℤ r) is in
    after_residual half p residual c (Ok (r, d)) e ∙ rw (x.yes) (ap (λ (v : ℤ). Ok (v, d)) (sym (x.same)))

pub sample_out : (half p r : ℤ) (residual : Syntax FlacFault ℤ) (c d : Cursor) → read short residual c ≡ Ok (r, d) → None ≡ sample_or half (p +ℤ r) → read short (sample half residual p) c ≡ Err fault.Range
sample_out half p r residual c d e is =
    let x = left_out (is_sample half (p +ℤ r)) (p +ℤ r) is in
    after_residual half p residual c (Ok (r, d)) e ∙ rw x refl

pub sample_err : (half p : ℤ) (residual : Syntax FlacFault ℤ) (c : Cursor) (f : FlacFault) → read short residual c ≡ Err f → read short (sample half residual p) c ≡ Err f
sample_err half p residual c f e = after_residual half p residual c (Err f) e

pub plain_there : (k : ℕ) (v : ℤ) (c d : Cursor) → field_at (Signed k) c ≡ Ok (v, d) → read short (plain_residual k) c ≡ Ok (v, d)
unfolding plain_residual
plain_there k v c d e = rw e refl

pub plain_short : (k : ℕ) (c : Cursor) (f : FlacFault) → field_at (Signed k) c ≡ Err field.Short → f ≡ fault.Short → read short (plain_residual k) c ≡ Err f
unfolding plain_residual
plain_short k c f e is = rw (e, is) refl

pub plain_small : (z : ℤ) (k : ℕ) → k < 32 → 2 * unsigned_abs z ≤ 2 ^ k → unsigned_abs z < 2 ^ 31
plain_small z k lt le = omega (arith, pow_below k 32 lt)
