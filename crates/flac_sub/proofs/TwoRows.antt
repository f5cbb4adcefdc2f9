-- Two rows, place by place.
use Rattle.std.specs.Prelude.{nat_lt}
use Rattle.std.proofs.Common.{◌≡◌, ℕ, zero, suc, ◌+◌, ◌<◌, ◌≤◌, ℤ, pos, List, [], ◌∷◌, length, get_or, set, Bool, true, false, not, ◌||◌, Result, Ok, Err, refl, ap, subst, ◌∙◌, arith, inl, inr, FitsSigned, w64}
use Rattle.std.proofs.lemmas.Int.{ints}
use Rattle.std.proofs.lemmas.List.{get_or-set_same, get_or-set_other}
use Rattle.std.proofs.lemmas.Bool.{cases_eq, lt-ltb, le-ltb}
use Rattle.spec_bits.specs.Cursor.{Cursor}
use Rattle.spec_syntax.specs.Syntax.{Syntax, End, Choice, ◌>>=◌}
use Rattle.spec_syntax.specs.Reading.{read, Answers}
use Rattle.spec_syntax.proofs.Reading.{read_bind}
use Rattle.spec_flac.specs.declared.fault.FlacFault.{FlacFault}
use Rattle.spec_flac.specs.declared.fault.FlacFault.TheVariants as fault
use Rattle.spec_flac.specs.declared.shape.FlacShape.{FlacShape}
use Rattle.spec_flac.specs.Faults.{short}
use Rattle.spec_flac.specs.Residual.{is_sample}
use Rattle.spec_flac.specs.Subframe.{half_of, subframe}
use Rattle.spec_flac.specs.Frame.{paired, has_other, left_of, right_of, left_and_right, first_depth, second_depth, one_channel, two_channels}
use Rattle.flac_subframes.specs.Rows.{AreWithin, AreSmall}
use Rattle.flac_subframes.proofs.WholeSubframes.{half_small}

pub paired_from : (f : ℤ → ℤ → ℤ) (zs xs ys : List ℤ) → length zs ≡ length xs → length xs ≡ length ys → ((i : ℕ) → i < length xs → get_or zs i (pos 0) ≡ f (get_or xs i (pos 0)) (get_or ys i (pos 0))) → zs ≡ paired f xs ys
paired_from f [] [] ys len equal same = refl
paired_from f [] (x ∷ xs) ys len equal same = absurd (omega arith)
paired_from f (z ∷ zs) [] ys len equal same = absurd (omega arith)
paired_from f (z ∷ zs) (x ∷ xs) [] len equal same = absurd (omega arith)
paired_from f (z ∷ zs) (x ∷ xs) (y ∷ ys) len equal same =
    let head : z ≡ f x y = same 0 (omega arith) in
    let rest : zs ≡ paired f xs ys = paired_from f zs xs ys (omega arith) (omega arith) (λ i lt. same (suc i) (omega arith)) in
    rw (head, rest) refl

or_left : (a b : Bool) → a ≡ true → (a || b) ≡ true
or_left true b e = refl
or_left false b e = absurd cc

or_right : (a b : Bool) → b ≡ true → (a || b) ≡ true
or_right true b e = refl
or_right false b e = e

or_none : (a b : Bool) → a ≡ false → b ≡ false → (a || b) ≡ false
or_none true b e f = absurd cc
or_none false b e f = f

other_at : (half : ℤ) (f : ℤ → ℤ → ℤ) (xs ys : List ℤ) (i : ℕ) → i < length xs → length xs ≡ length ys → is_sample half (f (get_or xs i (pos 0)) (get_or ys i (pos 0))) ≡ false → has_other half (paired f xs ys) ≡ true
other_at half f [] ys i lt equal e = absurd (omega arith)
other_at half f (x ∷ xs) [] i lt equal e = absurd (omega arith)
other_at half f (x ∷ xs) (y ∷ ys) zero lt equal e = or_left (not (is_sample half (f x y))) (has_other half (paired f xs ys)) (ap not e)
other_at half f (x ∷ xs) (y ∷ ys) (suc i) lt equal e = or_right (not (is_sample half (f x y))) (has_other half (paired f xs ys)) (other_at half f xs ys i (omega arith) (omega arith) e)

no_other : (half : ℤ) (f : ℤ → ℤ → ℤ) (xs ys : List ℤ) → length xs ≡ length ys → ((i : ℕ) → i < length xs → is_sample half (f (get_or xs i (pos 0)) (get_or ys i (pos 0))) ≡ true) → has_other half (paired f xs ys) ≡ false
no_other half f [] ys equal all = refl
no_other half f (x ∷ xs) [] equal all = refl
no_other half f (x ∷ xs) (y ∷ ys) equal all = or_none (not (is_sample half (f x y))) (has_other half (paired f xs ys)) (ap not (all 0 (omega arith))) (no_other half f xs ys (omega arith) (λ i lt. all (suc i) (omega arith)))

-- ---- the table

abbrev tests : ℕ → ℕ → List ℤ → List ℤ → Bool
tests code depth a b = has_other (half_of depth) (paired (left_of code) a b) || has_other (half_of depth) (paired (right_of code) a b)

refused : (code depth : ℕ) (a b : List ℤ) (c : Cursor) → tests code depth a b ≡ true → read short (left_and_right code depth a b) c ≡ Err fault.Range
unfolding left_and_right
refused code depth a b c e = rw e refl

pub left_out : (code depth : ℕ) (a b : List ℤ) (c : Cursor) (i : ℕ) (half : ℤ) → half ≡ half_of depth → i < length a → length a ≡ length b → is_sample half (left_of code (get_or a i (pos 0)) (get_or b i (pos 0))) ≡ false → read short (left_and_right code depth a b) c ≡ Err fault.Range
left_out code depth a b c i half is lt equal e =
    refused code depth a b c (or_left _ _ (other_at (half_of depth) (left_of code) a b i lt equal (subst (λ (h : ℤ). is_sample h (left_of code (get_or a i (pos 0)) (get_or b i (pos 0))) ≡ false) is e)))

pub right_out : (code depth : ℕ) (a b : List ℤ) (c : Cursor) (i : ℕ) (half : ℤ) → half ≡ half_of depth → i < length a → length a ≡ length b → is_sample half (right_of code (get_or a i (pos 0)) (get_or b i (pos 0))) ≡ false → read short (left_and_right code depth a b) c ≡ Err fault.Range
right_out code depth a b c i half is lt equal e =
    refused code depth a b c (or_right _ _ (other_at (half_of depth) (right_of code) a b i lt equal (subst (λ (h : ℤ). is_sample h (right_of code (get_or a i (pos 0)) (get_or b i (pos 0))) ≡ false) is e)))

-- what holds of the rows before a place
pub record Done (code : ℕ) (half : ℤ) (a b x y : List ℤ) (n : ℕ) : Type 0 where
  pub left : (i : ℕ) → i < n → get_or x i (pos 0) ≡ left_of code (get_or a i (pos 0)) (get_or b i (pos 0))
  pub right : (i : ℕ) → i < n → get_or y i (pos 0) ≡ right_of code (get_or a i (pos 0)) (get_or b i (pos 0))
  pub left_fits : (i : ℕ) → i < n → is_sample half (left_of code (get_or a i (pos 0)) (get_or b i (pos 0))) ≡ true
  pub right_fits : (i : ℕ) → i < n → is_sample half (right_of code (get_or a i (pos 0)) (get_or b i (pos 0))) ≡ true
  pub first : (i : ℕ) → n ≤ i → get_or x i (pos 0) ≡ get_or a i (pos 0)
  pub second : (i : ℕ) → n ≤ i → get_or y i (pos 0) ≡ get_or b i (pos 0)

set_done : (x : List ℤ) (n : ℕ) (z : ℤ) (P : ℕ → ℤ → Type 0) → n < length x → P n z → ((i : ℕ) → i < n → P i (get_or x i (pos 0))) → (i : ℕ) → i < n + 1 → P i (get_or (set x n z) i (pos 0))
set_done x n z P lt is done i inside = elim (cases_eq i n) [
  | inl same ↦ rw (same, get_or-set_same) is
  | inr other ↦ rw get_or-set_other (done i (omega (arith, other)))
]

set_left : (x a : List ℤ) (n : ℕ) (z : ℤ) → ((i : ℕ) → n ≤ i → get_or x i (pos 0) ≡ get_or a i (pos 0)) → (i : ℕ) → n + 1 ≤ i → get_or (set x n z) i (pos 0) ≡ get_or a i (pos 0)
set_left x a n z left i past = let other : i ≡ n → ⊥ = (λ same. absurd (omega (arith, same))) in rw get_or-set_other (left i (omega arith))

one_more : (P : ℕ → Type 0) (n : ℕ) → P n → ((i : ℕ) → i < n → P i) → (i : ℕ) → i < n + 1 → P i
one_more P n is done i inside = elim (cases_eq i n) [
  | inl same ↦ rw same is
  | inr other ↦ done i (omega (arith, other))
]

pub done_first : (code : ℕ) (half : ℤ) (a b : List ℤ) → Done code half a b a b 0
done_first code half a b = record {
  left = λ i lt. absurd (omega (arith, lt));
  right = λ i lt. absurd (omega (arith, lt));
  left_fits = λ i lt. absurd (omega (arith, lt));
  right_fits = λ i lt. absurd (omega (arith, lt));
  first = λ i le. refl;
  second = λ i le. refl;
}

pub done_more : (code : ℕ) (half : ℤ) (a b x y : List ℤ) (n : ℕ) (l r : ℤ) → n < length x → n < length y → l ≡ left_of code (get_or a n (pos 0)) (get_or b n (pos 0)) → r ≡ right_of code (get_or a n (pos 0)) (get_or b n (pos 0))
    → is_sample half l ≡ true → is_sample half r ≡ true → Done code half a b x y n → Done code half a b (set x n l) (set y n r) (n + 1)
done_more code half a b x y n l r in_x in_y is_l is_r fits_l fits_r d = record {
  left = set_done x n l (λ i z. z ≡ left_of code (get_or a i (pos 0)) (get_or b i (pos 0))) in_x is_l d.left;
  right = set_done y n r (λ i z. z ≡ right_of code (get_or a i (pos 0)) (get_or b i (pos 0))) in_y is_r d.right;
  left_fits = one_more (λ i. is_sample half (left_of code (get_or a i (pos 0)) (get_or b i (pos 0))) ≡ true) n (subst (λ (z : ℤ). is_sample half z ≡ true) is_l fits_l) d.left_fits;
  right_fits = one_more (λ i. is_sample half (right_of code (get_or a i (pos 0)) (get_or b i (pos 0))) ≡ true) n (subst (λ (z : ℤ). is_sample half z ≡ true) is_r fits_r) d.right_fits;
  first = set_left x a n l d.first;
  second = set_left y b n r d.second;
}

pub all_done : (code depth : ℕ) (half : ℤ) (a b x y : List ℤ) (n : ℕ) (c : Cursor) → half ≡ half_of depth → length a ≡ length b → length x ≡ length a → length y ≡ length b → length a ≤ n → Done code half a b x y n
    → read short (left_and_right code depth a b) c ≡ Ok (x ∷ y ∷ [], c)
unfolding left_and_right
all_done code depth half a b x y n c is equal len_x len_y past d =
    let xs : x ≡ paired (left_of code) a b = paired_from (left_of code) x a b len_x equal (λ i lt. d.left i (omega arith)) in
    let ys : y ≡ paired (right_of code) a b = paired_from (right_of code) y a b (omega arith) equal (λ i lt. d.right i (omega arith)) in
    let no_l : has_other (half_of depth) (paired (left_of code) a b) ≡ false = subst (λ (h : ℤ). has_other h (paired (left_of code) a b) ≡ false) is (no_other half (left_of code) a b equal (λ i lt. d.left_fits i (omega arith))) in
    let no_r : has_other (half_of depth) (paired (right_of code) a b) ≡ false = subst (λ (h : ℤ). has_other h (paired (right_of code) a b) ≡ false) is (no_other half (right_of code) a b equal (λ i lt. d.right_fits i (omega arith))) in
    rw (or_none _ _ no_l no_r, xs, ys) refl

-- ---- the channels

pub within_small : (depth : ℕ) (zs : List ℤ) → depth ≤ 33 → AreWithin (half_of depth) zs → AreSmall zs
within_small depth zs high small i = half_small (get_or zs i (pos 0)) depth high (small i)

pub one_ok : (shape : FlacShape) (p n : ℕ) (zs : List ℤ) (c d : Cursor) → p ≡ shape.depth → n ≡ shape.length → read short (subframe p n) c ≡ Ok (zs, d) → read short (one_channel shape) c ≡ Ok (zs ∷ [], d)
unfolding one_channel
one_ok shape p n zs c d is len e =
    let g : read short (subframe shape.depth shape.length) c ≡ Ok (zs, d) = rw (← is, ← len) e in
    read_bind short (subframe shape.depth shape.length) (λ xs. End (xs ∷ [])) c ∙ rw g refl

pub one_err : (shape : FlacShape) (p n : ℕ) (c : Cursor) (f : FlacFault) → p ≡ shape.depth → n ≡ shape.length → read short (subframe p n) c ≡ Err f → read short (one_channel shape) c ≡ Err f
unfolding one_channel
one_err shape p n c f is len e =
    let g : read short (subframe shape.depth shape.length) c ≡ Err f = rw (← is, ← len) e in
    read_bind short (subframe shape.depth shape.length) (λ xs. End (xs ∷ [])) c ∙ rw g refl

pub one_answers : (shape : FlacShape) (p n : ℕ) (zs : List ℤ) (c d : Cursor) (result : Result (Unit {0}) FlacFault) → p ≡ shape.depth → n ≡ shape.length → Answers (λ _. (zs, d)) result (read short (subframe p n) c) → Answers (λ _. (zs ∷ [], d)) result (read short (one_channel shape) c)
one_answers shape p n zs c d (Ok u) is len e = one_ok shape p n zs c d is len e
one_answers shape p n zs c d (Err f) is len e = one_err shape p n c f is len e

abbrev then : FlacShape → ℕ → List ℤ → List ℤ → Syntax FlacFault (List (List ℤ))
then shape code xs ys = Choice (nat_lt code 8) (End (xs ∷ ys ∷ [])) (left_and_right code shape.depth xs ys)

pub two_then : (shape : FlacShape) (code n m p q : ℕ) (xs ys : List ℤ) (c d e : Cursor) → n ≡ shape.length → m ≡ shape.length → p ≡ first_depth shape code → q ≡ second_depth shape code → read short (subframe p n) c ≡ Ok (xs, d) → read short (subframe q m) d ≡ Ok (ys, e)
    → read short (two_channels shape code) c ≡ read short (then shape code xs ys) e
unfolding two_channels
two_then shape code n m p q xs ys c d e len_n len_m is_p is_q one two =
    let first : read short (subframe (first_depth shape code) shape.length) c ≡ Ok (xs, d) = rw (← is_p, ← len_n) one in
    let second : read short (subframe (second_depth shape code) shape.length) d ≡ Ok (ys, e) = rw (← is_q, ← len_m) two in
    read_bind short (subframe (first_depth shape code) shape.length) (λ zs. subframe (second_depth shape code) shape.length >>= λ ws. then shape code zs ws) c
    ∙ rw first (read_bind short (subframe (second_depth shape code) shape.length) (λ ws. then shape code xs ws) d ∙ rw second refl)

pub two_no_first : (shape : FlacShape) (code n p : ℕ) (c : Cursor) (f : FlacFault) → n ≡ shape.length → p ≡ first_depth shape code → read short (subframe p n) c ≡ Err f → read short (two_channels shape code) c ≡ Err f
unfolding two_channels
two_no_first shape code n p c f len_n is_p one =
    let first : read short (subframe (first_depth shape code) shape.length) c ≡ Err f = rw (← is_p, ← len_n) one in
    read_bind short (subframe (first_depth shape code) shape.length) (λ zs. subframe (second_depth shape code) shape.length >>= λ ws. then shape code zs ws) c ∙ rw first refl

pub two_no_second : (shape : FlacShape) (code n m p q : ℕ) (xs : List ℤ) (c d : Cursor) (f : FlacFault) → n ≡ shape.length → m ≡ shape.length → p ≡ first_depth shape code → q ≡ second_depth shape code → read short (subframe p n) c ≡ Ok (xs, d) → read short (subframe q m) d ≡ Err f
    → read short (two_channels shape code) c ≡ Err f
unfolding two_channels
two_no_second shape code n m p q xs c d f len_n len_m is_p is_q one two =
    let first : read short (subframe (first_depth shape code) shape.length) c ≡ Ok (xs, d) = rw (← is_p, ← len_n) one in
    let second : read short (subframe (second_depth shape code) shape.length) d ≡ Err f = rw (← is_q, ← len_m) two in
    read_bind short (subframe (first_depth shape code) shape.length) (λ zs. subframe (second_depth shape code) shape.length >>= λ ws. then shape code zs ws) c
    ∙ rw first (read_bind short (subframe (second_depth shape code) shape.length) (λ ws. then shape code xs ws) d ∙ rw second refl)

pub then_left : (shape : FlacShape) (code p : ℕ) (xs ys : List ℤ) (c : Cursor) → p ≡ shape.depth → 8 ≤ code → read short (then shape code xs ys) c ≡ read short (left_and_right code p xs ys) c
then_left shape code p xs ys c is le = let t : nat_lt code 8 ≡ false = le-ltb _ _ le in rw (t, is) refl

pub then_same : (shape : FlacShape) (code : ℕ) (xs ys : List ℤ) (c : Cursor) → code < 8 → read short (then shape code xs ys) c ≡ Ok (xs ∷ ys ∷ [], c)
then_same shape code xs ys c lt = let t : nat_lt code 8 ≡ true = lt-ltb _ _ lt in rw t refl

pub left_at : (code : ℕ) (half : ℤ) (a b x y : List ℤ) (n : ℕ) (l : ℤ) → Done code half a b x y n → l ≡ left_of code (get_or x n (pos 0)) (get_or y n (pos 0)) → l ≡ left_of code (get_or a n (pos 0)) (get_or b n (pos 0))
left_at code half a b x y n l d is =
    let le : n ≤ n = omega arith in
    is ∙ ap (λ (z : ℤ). left_of code z (get_or y n (pos 0))) (d.first n le) ∙ ap (λ (z : ℤ). left_of code (get_or a n (pos 0)) z) (d.second n le)

pub right_at : (code : ℕ) (half : ℤ) (a b x y : List ℤ) (n : ℕ) (r : ℤ) → Done code half a b x y n → r ≡ right_of code (get_or x n (pos 0)) (get_or y n (pos 0)) → r ≡ right_of code (get_or a n (pos 0)) (get_or b n (pos 0))
right_at code half a b x y n r d is =
    let le : n ≤ n = omega arith in
    is ∙ ap (λ (z : ℤ). right_of code z (get_or y n (pos 0))) (d.first n le) ∙ ap (λ (z : ℤ). right_of code (get_or a n (pos 0)) z) (d.second n le)

pub fits_first : (code : ℕ) (half : ℤ) (a b x y : List ℤ) (n : ℕ) → Done code half a b x y n → AreSmall a → FitsSigned w64 (get_or x n (pos 0))
fits_first code half a b x y n d small = let le : n ≤ n = omega arith in rw (d.first n le) (omega (arith, ints, small n))

pub fits_second : (code : ℕ) (half : ℤ) (a b x y : List ℤ) (n : ℕ) → Done code half a b x y n → AreSmall b → FitsSigned w64 (get_or y n (pos 0))
fits_second code half a b x y n d small = let le : n ≤ n = omega arith in rw (d.second n le) (omega (arith, ints, small n))
