-- Tables one part after the other.
use Rattle.std.proofs.Common.{◌≡◌, ℕ, zero, suc, ◌-◌, ◌*◌, ◌^◌, ◌≤◌, ℤ, pos, List, [], ◌∷◌, ◌++◌, length, take, get_or, unsigned_abs, Ok, Err, refl, ap, subst, ◌∙◌, arith}
use Rattle.std.proofs.Math.Nat.{pow-suc, pow-le-pow_right}
use Rattle.std.proofs.lemmas.List.{take_all}
use Rattle.spec_bits.specs.Cursor.{Cursor}
use Rattle.spec_syntax.specs.Syntax.{◌>>=◌}
use Rattle.spec_syntax.specs.Reading.{read}
use Rattle.spec_syntax.proofs.Reading.{read_bind}
use Rattle.spec_flac.specs.declared.fault.FlacFault.{FlacFault}
use Rattle.spec_flac.specs.Faults.{short}
use Rattle.spec_flac.specs.Residual.{residual}
use Rattle.spec_flac.specs.Subframe.{verbatim, predicted, half_of, copies, Weights, weights, weighted, linear, linear_prediction}
use Rattle.flac_subframes.specs.Rows.{AreWithin, AreBelow}

pub predicted_then : (order : ℕ) (predict : List ℤ → ℤ) (depth n m : ℕ) (half : ℤ) (warm : List ℤ) (c d : Cursor) → m ≡ n → half ≡ half_of depth → read short (verbatim depth order) c ≡ Ok (warm, d) → read short (predicted order predict depth n) c ≡ read short (residual half predict m warm) d
unfolding predicted
predicted_then order predict depth n m half warm c d len is e = read_bind short (verbatim depth order) (λ zs. residual (half_of depth) predict n zs) c ∙ rw (e, len, is) refl

pub predicted_fails : (order : ℕ) (predict : List ℤ → ℤ) (depth n : ℕ) (c : Cursor) (f : FlacFault) → read short (verbatim depth order) c ≡ Err f → read short (predicted order predict depth n) c ≡ Err f
unfolding predicted
predicted_fails order predict depth n c f e = read_bind short (verbatim depth order) (λ zs. residual (half_of depth) predict n zs) c ∙ rw e refl

-- a number of so many bits is within half
pub within_half : (z : ℤ) (depth : ℕ) → 1 ≤ depth → 2 * unsigned_abs z ≤ 2 ^ depth → unsigned_abs z ≤ 2 ^ (depth - 1)
within_half z depth low le =
    let k : depth ≡ suc (depth - 1) = omega arith in
    let p : 2 ^ depth ≡ 2 * 2 ^ (depth - 1) = ap (λ (n : ℕ). 2 ^ n) k ∙ pow-suc 2 (depth - 1) ∙ omega arith in
    omega (arith, le, p)

pub all_within : (depth : ℕ) (zs : List ℤ) → 1 ≤ depth → AreBelow depth zs → AreWithin (half_of depth) zs
all_within depth zs low below i = within_half (get_or zs i (pos 0)) depth low (below i)

pub copies_within : (half z : ℤ) (n : ℕ) → unsigned_abs z ≤ unsigned_abs half → AreWithin half (copies n z)
copies_within half z zero le i = omega arith
copies_within half z (suc n) le zero = le
copies_within half z (suc n) le (suc i) = copies_within half z n le i

pub copies_more : (n : ℕ) (z : ℤ) → copies n z ++ z ∷ [] ≡ copies (suc n) z
copies_more zero z = refl
copies_more (suc n) z = ap (λ (zs : List ℤ). z ∷ zs) (copies_more n z)

pub weighted_then : (order depth : ℕ) (w : Weights) (n : ℕ) (half : ℤ) (warm cs ds : List ℤ) (c d : Cursor) → half ≡ half_of depth → cs ≡ ds → read short (verbatim w.precision order) c ≡ Ok (cs, d) → read short (weighted order depth w n warm) c ≡ read short (residual half (linear_prediction ds w.shift) n warm) d
unfolding weighted
weighted_then order depth w n half warm cs ds c d is same e = read_bind short (verbatim w.precision order) (λ zs. residual (half_of depth) (linear_prediction zs w.shift) n warm) c ∙ rw (e, is, same) refl

pub weighted_fails : (order depth : ℕ) (w : Weights) (n : ℕ) (warm : List ℤ) (c : Cursor) (f : FlacFault) → read short (verbatim w.precision order) c ≡ Err f → read short (weighted order depth w n warm) c ≡ Err f
unfolding weighted
weighted_fails order depth w n warm c f e = read_bind short (verbatim w.precision order) (λ zs. residual (half_of depth) (linear_prediction zs w.shift) n warm) c ∙ rw e refl

pub linear_then : (order depth n m : ℕ) (warm : List ℤ) (w : Weights) (c d e : Cursor) → m ≡ n → read short (verbatim depth order) c ≡ Ok (warm, d) → read short weights d ≡ Ok (w, e) → read short (linear order depth n) c ≡ read short (weighted order depth w m warm) e
unfolding linear
linear_then order depth n m warm w c d e len one two =
    read_bind short (verbatim depth order) (λ zs. weights >>= λ v. weighted order depth v n zs) c ∙ rw one (read_bind short weights (λ v. weighted order depth v n warm) d ∙ rw (two, len) refl)

pub linear_no_warm : (order depth n : ℕ) (c : Cursor) (f : FlacFault) → read short (verbatim depth order) c ≡ Err f → read short (linear order depth n) c ≡ Err f
unfolding linear
linear_no_warm order depth n c f one = read_bind short (verbatim depth order) (λ zs. weights >>= λ v. weighted order depth v n zs) c ∙ rw one refl

pub linear_no_weights : (order depth n : ℕ) (warm : List ℤ) (c d : Cursor) (f : FlacFault) → read short (verbatim depth order) c ≡ Ok (warm, d) → read short weights d ≡ Err f → read short (linear order depth n) c ≡ Err f
unfolding linear
linear_no_weights order depth n warm c d f one two =
    read_bind short (verbatim depth order) (λ zs. weights >>= λ v. weighted order depth v n zs) c ∙ rw one (read_bind short weights (λ v. weighted order depth v n warm) d ∙ rw two refl)

pub coefficients_small : (precision : ℕ) (cs : List ℤ) (n : ℕ) → precision ≤ 15 → length cs ≤ n → AreBelow precision (take n cs) → (i : ℕ) → unsigned_abs (get_or cs i (pos 0)) ≤ 2 ^ 14
coefficients_small precision cs n le len below i =
    let p : 2 ^ precision ≤ 2 ^ 15 = pow-le-pow_right (omega arith) le in
    let z : 2 * unsigned_abs (get_or cs i (pos 0)) ≤ 2 ^ precision = subst (λ (zs : List ℤ). 2 * unsigned_abs (get_or zs i (pos 0)) ≤ 2 ^ precision) (take_all n cs len) (below i) in
    omega (arith, p, z)
