-- Long division, one bit after the other.
use Rattle.std.proofs.Common.{◌≡◌, ℕ, suc, ◌+◌, ◌<◌, Bool, false, [], ◌∷◌, ◌++◌, length, refl, sym, ap, ◌∙◌, arith, length-append, append_assoc}
use Rattle.std.proofs.lemmas.List.{append-nil}
use Rattle.spec_bits.specs.Bits.{Bits, zeros}
use Rattle.spec_checksums.specs.Polynomials.{differ, ◌⊕◌, scale, times, IsRemainder, step, steps, remainder}
use Rattle.spec_bits.proofs.BitsLaws.{length-zeros}
use Rattle.spec_checksums.proofs.Sums.{sum_comm, sum_assoc, sum_zeros, zeros_sum, sum_append, length-sum, swap_middle, length-scale, scale_sum, zeros_append, cancel, scale_cons, off, same_off, differ_swap, both}

pub length-step : (p r : Bits) (b : Bool) → length r ≡ length p → length (step p r b) ≡ length p
length-step p [] b e = e
length-step p (h ∷ t) b e = length-sum (t ++ false ∷ []) (scale (differ h b) p) (omega (arith, length-append t (false ∷ []), length-scale (differ h b) p)) ∙ length-scale (differ h b) p

pub length-steps : (p r bits : Bits) → length r ≡ length p → length (steps p r bits) ≡ length p
length-steps p r [] e = e
length-steps p r (b ∷ bits) e = length-steps p (step p r b) bits (length-step p r b e)

pub steps_append : (p r xs ys : Bits) → steps p r (xs ++ ys) ≡ steps p (steps p r xs) ys
steps_append p r [] ys = refl
steps_append p r (x ∷ xs) ys = steps_append p (step p r x) xs ys

-- what the divisions take off
abbrev pub quotient : Bits → Bits → Bits → Bits
quotient p r [] = []
quotient p [] (b ∷ bits) = b ∷ quotient p [] bits
quotient p (h ∷ t) (b ∷ bits) = differ h b ∷ quotient p (step p (h ∷ t) b) bits

length-quotient : (p r bits : Bits) → length (quotient p r bits) ≡ length bits
length-quotient p r [] = refl
length-quotient p [] (b ∷ bits) = ap suc (length-quotient p [] bits)
length-quotient p (h ∷ t) (b ∷ bits) = ap suc (length-quotient p (step p (h ∷ t) b) bits)

divided : (p r bits : Bits) → length r ≡ length p → 0 < length p
    → (r ++ zeros (length bits)) ⊕ (bits ++ zeros (length p)) ≡ times (quotient p r bits) p ⊕ (zeros (length bits) ++ steps p r bits)
divided p r [] e wide = ap (λ (x : Bits). x ⊕ zeros (length p)) (append-nil r) ∙ sum_comm r (zeros (length p))
divided p [] (b ∷ bits) e wide = absurd (omega arith)
divided p (h ∷ t) (b ∷ bits) e wide =
    let n = length bits in
    let c = differ h b in
    let reg = step p (h ∷ t) b in
    let q = quotient p reg bits in
    let r = steps p reg bits in
    let m = bits ++ zeros (length p) in
    let sc = scale c p ++ zeros n in
    let tt0 = (t ++ false ∷ []) ++ zeros n in
    let fits : length (t ++ false ∷ []) ≡ length (scale c p) = omega (arith, length-append t (false ∷ []), length-scale c p) in
    let parts : reg ++ zeros n ≡ tt0 ⊕ sc = ap (λ (z : Bits). reg ++ z) (sym (zeros_sum n (zeros n) (omega (arith, length-zeros n)))) ∙ sym (sum_append (t ++ false ∷ []) (scale c p) (zeros n) (zeros n) fits) in
    let lens : length sc ≡ length tt0 = omega (arith, length-append (scale c p) (zeros n), length-append (t ++ false ∷ []) (zeros n), fits) in
    let again : (reg ++ zeros n) ⊕ m ≡ times q p ⊕ (zeros n ++ r) = divided p reg bits (length-step p (h ∷ t) b e) wide in
    let tail : (t ++ false ∷ zeros n) ⊕ m ≡ (sc ⊕ times q p) ⊕ (zeros n ++ r) =
    ap (λ (z : Bits). z ⊕ m) (sym (append_assoc t (false ∷ []) (zeros n))) ∙ sym (cancel sc tt0 m lens) ∙ ap (λ (z : Bits). sc ⊕ (z ⊕ m)) (sym parts) ∙ ap (λ (z : Bits). sc ⊕ z) again ∙ sym (sum_assoc sc (times q p) (zeros n ++ r)) in
    let product : times (c ∷ q) p ≡ differ c false ∷ (sc ⊕ times q p) =
    ap (λ (z : Bits). (z ++ zeros (length q)) ⊕ (false ∷ times q p)) (scale_cons c p) ∙ ap (λ (k : ℕ). differ c false ∷ ((scale c p ++ zeros k) ⊕ times q p)) (length-quotient p reg bits) in
    both c (differ (differ c false) false) _ _ (off c) tail ∙ ap (λ (z : Bits). z ⊕ (false ∷ (zeros n ++ r))) (sym product)

-- the register that begins with zeros is the remainder
pub remains : (p bits : Bits) → 0 < length p → IsRemainder p bits (steps p (zeros (length p)) bits)
remains p bits wide = (
  length-steps p (zeros (length p)) bits (length-zeros (length p)),
  quotient p (zeros (length p)) bits,
  length-quotient p (zeros (length p)) bits,
  sym (zeros_sum (length p + length bits) (bits ++ zeros (length p)) (omega (arith, length-append bits (zeros (length p)), length-zeros (length p)))) ∙ ap (λ (z : Bits). z ⊕ (bits ++ zeros (length p))) (sym (zeros_append (length p) (length bits))) ∙ divided p (zeros (length p)) bits (length-zeros (length p)) wide,
)

-- ---- the register is linear

step_sum : (p r s : Bits) (a b : Bool) → length r ≡ length p → length s ≡ length p → step p (r ⊕ s) (differ a b) ≡ step p r a ⊕ step p s b
step_sum p [] [] a b e f = refl
step_sum p [] (g ∷ u) a b e f = absurd (omega arith)
step_sum p (h ∷ t) [] a b e f = absurd (omega arith)
step_sum p (h ∷ t) (g ∷ u) a b e f =
    ap (λ (z : Bits). z ⊕ scale (differ (differ h g) (differ a b)) p) (sym (sum_append t u (false ∷ []) (false ∷ []) (omega arith)))
    ∙ ap (λ (z : Bits). ((t ++ false ∷ []) ⊕ (u ++ false ∷ [])) ⊕ z) (ap (λ (x : Bool). scale x p) (differ_swap h g a b) ∙ scale_sum (differ h a) (differ g b) p)
    ∙ swap_middle (t ++ false ∷ []) (u ++ false ∷ []) (scale (differ h a) p) (scale (differ g b) p)

pub steps_sum : (p r s xs ys : Bits) → length r ≡ length p → length s ≡ length p → length xs ≡ length ys → steps p (r ⊕ s) (xs ⊕ ys) ≡ steps p r xs ⊕ steps p s ys
steps_sum p r s [] [] e f g = refl
steps_sum p r s [] (y ∷ ys) e f g = absurd (omega arith)
steps_sum p r s (x ∷ xs) [] e f g = absurd (omega arith)
steps_sum p r s (x ∷ xs) (y ∷ ys) e f g = ap (λ (q : Bits). steps p q (xs ⊕ ys)) (step_sum p r s x y e f) ∙ steps_sum p (step p r x) (step p s y) xs ys (length-step p r x e) (length-step p s y f) (omega arith)

-- a register that begins with the bits themselves loses them
pub steps_same : (p xs rest : Bits) → length xs + length rest ≡ length p → steps p (xs ++ rest) xs ≡ rest ++ zeros (length xs)
steps_same p [] rest e = sym (append-nil rest)
steps_same p (x ∷ xs) rest e =
    let len : length ((xs ++ rest) ++ false ∷ []) ≡ length p = omega (arith, length-append (xs ++ rest) (false ∷ []), length-append xs rest) in
    let one : step p ((x ∷ xs) ++ rest) x ≡ xs ++ (rest ++ false ∷ []) = ap (λ (z : Bits). ((xs ++ rest) ++ false ∷ []) ⊕ z) (same_off x p) ∙ sum_zeros ((xs ++ rest) ++ false ∷ []) (length p) (omega arith) ∙ append_assoc xs rest (false ∷ []) in
    ap (λ (z : Bits). steps p z xs) one ∙ steps_same p xs (rest ++ false ∷ []) (omega (arith, length-append rest (false ∷ []))) ∙ append_assoc rest (false ∷ []) (zeros (length xs))

pub remainder_is : (p bits : Bits) → 0 < length p → IsRemainder p bits (remainder p bits)
unfolding remainder
remainder_is p bits wide = remains p bits wide
