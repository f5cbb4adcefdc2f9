-- There is one remainder.
use Rattle.std.proofs.Common.{◌≡◌, ℕ, ◌+◌, ◌≤◌, Bool, false, [], ◌∷◌, ◌++◌, length, sym, ap, ◌∙◌, arith, length-append}
use Rattle.spec_bits.specs.Bits.{Bits, zeros}
use Rattle.spec_checksums.specs.Polynomials.{◌⊕◌, scale, times, IsRemainder}
use Rattle.spec_bits.proofs.BitsLaws.{length-zeros}
use Rattle.spec_checksums.proofs.Sums.{sum_assoc, sum_self, zeros_sum, length-sum, length-scale, length-times, scale_cons, off, both}

heads : (a b : Bool) (xs ys : Bits) → a ∷ xs ≡ b ∷ ys → (a ≡ b)
heads a b xs ys e = cc

tails : (a b : Bool) (xs ys : Bits) → a ∷ xs ≡ b ∷ ys → (xs ≡ ys)
tails a b xs ys e = cc

-- a sum with s on the left is undone by s
undone : (s x : Bits) → length s ≤ length x → s ⊕ (s ⊕ x) ≡ x
undone s x le = sym (sum_assoc s s x) ∙ ap (λ (z : Bits). z ⊕ x) (sum_self s) ∙ zeros_sum (length s) x le

first_product : (c : Bool) (q p x : Bits) → times (c ∷ q) p ⊕ (false ∷ x) ≡ c ∷ ((scale c p ++ zeros (length q)) ⊕ (times q p ⊕ x))
first_product c q p x =
    ap (λ (z : Bits). ((z ++ zeros (length q)) ⊕ (false ∷ times q p)) ⊕ (false ∷ x)) (scale_cons c p)
    ∙ both _ _ _ _ (sym (off c)) (sum_assoc (scale c p ++ zeros (length q)) (times q p) x)

same_rest : (p q t r s : Bits) → length q ≡ length t → length r ≡ length p → length s ≡ length p → times q p ⊕ (zeros (length q) ++ r) ≡ times t p ⊕ (zeros (length q) ++ s) → r ≡ s
same_rest p [] [] r s e f g h = sym (zeros_sum (length p) r (omega arith)) ∙ h ∙ zeros_sum (length p) s (omega arith)
same_rest p [] (b ∷ t) r s e f g h = absurd (omega arith)
same_rest p (a ∷ q) [] r s e f g h = absurd (omega arith)
same_rest p (a ∷ q) (b ∷ t) r s e f g h =
    let n = length q in
    let x = times q p ⊕ (zeros n ++ r) in
    let y = times t p ⊕ (zeros n ++ s) in
    let u = scale a p ++ zeros n in
    let v = scale b p ++ zeros (length t) in
    let k : a ∷ (u ⊕ x) ≡ b ∷ (v ⊕ y) = sym (first_product a q p (zeros n ++ r)) ∙ h ∙ first_product b t p (zeros n ++ s) in
    let same : a ≡ b = heads a b (u ⊕ x) (v ⊕ y) k in
    let both_ends : u ⊕ x ≡ v ⊕ y = tails a b (u ⊕ x) (v ⊕ y) k in
    let uv : v ≡ u = ap (λ (z : ℕ). scale b p ++ zeros z) (omega arith) ∙ ap (λ (z : Bool). scale z p ++ zeros n) (sym same) in
    let lx : length x ≡ length (zeros n ++ r) = length-sum (times q p) (zeros n ++ r) (omega (arith, length-times q p, length-append (zeros n) r, length-zeros n)) in
    let ly : length y ≡ length (zeros n ++ s) = length-sum (times t p) (zeros n ++ s) (omega (arith, length-times t p, length-append (zeros n) s, length-zeros n)) in
    let lu : length u ≡ n + length p = omega (arith, length-append (scale a p) (zeros n), length-scale a p, length-zeros n) in
    let xy : x ≡ y = sym (undone u x (omega (arith, length-append (zeros n) r, length-zeros n))) ∙ ap (λ (z : Bits). u ⊕ z) (both_ends ∙ ap (λ (z : Bits). z ⊕ y) uv) ∙ undone u y (omega (arith, length-append (zeros n) s, length-zeros n)) in
    same_rest p q t r s (omega arith) f g xy

pub one_remainder : (p bits r s : Bits) → IsRemainder p bits r → IsRemainder p bits s → r ≡ s
one_remainder p bits r s a b =
    let e : length a.1 ≡ length b.1 = omega (arith, a.2, b.2) in
    let h : times a.1 p ⊕ (zeros (length a.1) ++ r) ≡ times b.1 p ⊕ (zeros (length a.1) ++ s) =
    ap (λ (k : ℕ). times a.1 p ⊕ (zeros k ++ r)) (a.2) ∙ sym (a.3) ∙ b.3 ∙ ap (λ (k : ℕ). times b.1 p ⊕ (zeros k ++ s)) (sym (a.2)) in
    same_rest p a.1 b.1 r s e a.0 b.0 h
