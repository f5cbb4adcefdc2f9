-- Sums of polynomials.
use Rattle.std.proofs.Common.{◌≡◌, ℕ, zero, suc, ◌+◌, ◌≤◌, Bool, true, false, [], ◌∷◌, ◌++◌, length, refl, sym, ap, ◌∙◌, arith, length-append}
use Rattle.spec_bits.specs.Bits.{Bits, zeros}
use Rattle.spec_checksums.specs.Polynomials.{differ, ◌⊕◌, scale, times}
use Rattle.spec_bits.proofs.BitsLaws.{length-zeros}

differ_comm : (a b : Bool) → differ a b ≡ differ b a
differ_comm true true = refl
differ_comm true false = refl
differ_comm false true = refl
differ_comm false false = refl

differ_assoc : (a b c : Bool) → differ (differ a b) c ≡ differ a (differ b c)
differ_assoc true true true = refl
differ_assoc true true false = refl
differ_assoc true false true = refl
differ_assoc true false false = refl
differ_assoc false b c = refl

differ_self : (a : Bool) → differ a a ≡ false
differ_self true = refl
differ_self false = refl

pub both : (a b : Bool) (xs ys : Bits) → a ≡ b → xs ≡ ys → a ∷ xs ≡ b ∷ ys
both a b xs ys e f = cc

pub sum_comm : (xs ys : Bits) → xs ⊕ ys ≡ ys ⊕ xs
sum_comm [] [] = refl
sum_comm [] (y ∷ ys) = refl
sum_comm (x ∷ xs) [] = refl
sum_comm (x ∷ xs) (y ∷ ys) = both _ _ _ _ (differ_comm x y) (sum_comm xs ys)

pub sum_assoc : (xs ys zs : Bits) → (xs ⊕ ys) ⊕ zs ≡ xs ⊕ (ys ⊕ zs)
sum_assoc [] ys zs = refl
sum_assoc (x ∷ xs) [] zs = refl
sum_assoc (x ∷ xs) (y ∷ ys) [] = refl
sum_assoc (x ∷ xs) (y ∷ ys) (z ∷ zs) = both _ _ _ _ (differ_assoc x y z) (sum_assoc xs ys zs)

pub sum_self : (xs : Bits) → xs ⊕ xs ≡ zeros (length xs)
sum_self [] = refl
sum_self (x ∷ xs) = both _ _ _ _ (differ_self x) (sum_self xs)

differ_false : (a : Bool) → differ a false ≡ a
differ_false true = refl
differ_false false = refl

pub sum_zeros : (xs : Bits) (n : ℕ) → n ≤ length xs → xs ⊕ zeros n ≡ xs
sum_zeros [] zero le = refl
sum_zeros [] (suc n) le = absurd (omega arith)
sum_zeros (x ∷ xs) zero le = refl
sum_zeros (x ∷ xs) (suc n) le = both _ _ _ _ (differ_false x) (sum_zeros xs n (omega arith))

pub zeros_sum : (n : ℕ) (xs : Bits) → n ≤ length xs → zeros n ⊕ xs ≡ xs
zeros_sum n xs le = sum_comm (zeros n) xs ∙ sum_zeros xs n le

pub sum_append : (us vs xs ys : Bits) → length us ≡ length vs → (us ++ xs) ⊕ (vs ++ ys) ≡ (us ⊕ vs) ++ (xs ⊕ ys)
sum_append [] [] xs ys e = refl
sum_append [] (b ∷ vs) xs ys e = absurd (omega arith)
sum_append (a ∷ us) [] xs ys e = absurd (omega arith)
sum_append (a ∷ us) (b ∷ vs) xs ys e = ap (λ (r : Bits). differ a b ∷ r) (sum_append us vs xs ys (omega arith))

pub length-sum : (xs ys : Bits) → length xs ≡ length ys → length (xs ⊕ ys) ≡ length ys
length-sum [] ys e = refl
length-sum (x ∷ xs) [] e = e
length-sum (x ∷ xs) (y ∷ ys) e = ap suc (length-sum xs ys (omega arith))

pub swap_middle : (a b c d : Bits) → (a ⊕ b) ⊕ (c ⊕ d) ≡ (a ⊕ c) ⊕ (b ⊕ d)
swap_middle a b c d = sum_assoc a b (c ⊕ d) ∙ ap (λ (r : Bits). a ⊕ r) (sym (sum_assoc b c d) ∙ ap (λ (r : Bits). r ⊕ d) (sum_comm b c) ∙ sum_assoc c b d) ∙ sym (sum_assoc a c (b ⊕ d))

pub length-scale : (b : Bool) (p : Bits) → length (scale b p) ≡ length p
length-scale true p = refl
length-scale false p = length-zeros (length p)

pub scale_sum : (a b : Bool) (p : Bits) → scale (differ a b) p ≡ scale a p ⊕ scale b p
scale_sum true true p = sym (sum_self p)
scale_sum true false p = sym (sum_zeros p (length p) (omega arith))
scale_sum false true p = sym (zeros_sum (length p) p (omega arith))
scale_sum false false p = sym (zeros_sum (length p) (zeros (length p)) (omega (arith, length-zeros (length p))))

pub zeros_append : (m n : ℕ) → zeros m ++ zeros n ≡ zeros (m + n)
zeros_append zero n = ap zeros (omega arith)
zeros_append (suc m) n = let e : suc m + n ≡ suc (m + n) = omega arith in rw e (ap (λ (r : Bits). false ∷ r) (zeros_append m n))

pub length-times : (q p : Bits) → length (times q p) ≡ length q + length p
length-times [] p = length-zeros (length p) ∙ omega arith
length-times (b ∷ q) p =
    let front : length (scale b (true ∷ p) ++ zeros (length q)) ≡ suc (length q + length p) = omega (arith, length-append (scale b (true ∷ p)) (zeros (length q)), length-scale b (true ∷ p), length-zeros (length q)) in
    length-sum (scale b (true ∷ p) ++ zeros (length q)) (false ∷ times q p) (omega (arith, length-times q p)) ∙ omega (arith, length-times q p)

pub differ_swap : (a b c d : Bool) → differ (differ a b) (differ c d) ≡ differ (differ a c) (differ b d)
differ_swap a b c d = differ_assoc a b (differ c d) ∙ ap (λ (r : Bool). differ a r) (sym (differ_assoc b c d) ∙ ap (λ (r : Bool). differ r d) (differ_comm b c) ∙ differ_assoc c b d) ∙ sym (differ_assoc a c (differ b d))

pub cancel : (s t m : Bits) → length s ≡ length t → s ⊕ ((t ⊕ s) ⊕ m) ≡ t ⊕ m
cancel s t m e =
    let one : s ⊕ (t ⊕ s) ≡ t = ap (λ (r : Bits). s ⊕ r) (sum_comm t s) ∙ sym (sum_assoc s s t) ∙ ap (λ (r : Bits). r ⊕ t) (sum_self s) ∙ zeros_sum (length s) t (omega arith) in
    sym (sum_assoc s (t ⊕ s) m) ∙ ap (λ (r : Bits). r ⊕ m) one

pub scale_cons : (c : Bool) (p : Bits) → scale c (true ∷ p) ≡ c ∷ scale c p
scale_cons true p = refl
scale_cons false p = refl

pub off : (a : Bool) → a ≡ differ (differ a false) false
off true = refl
off false = refl

pub same_off : (x : Bool) (p : Bits) → scale (differ x x) p ≡ zeros (length p)
same_off true p = refl
same_off false p = refl
