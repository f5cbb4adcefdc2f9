-- The rows of a frame, one after the other.
use Rattle.std.proofs.Common.{arith, ◌≡◌, ◌<◌, ◌≤◌, ◌+◌, ◌*◌, ◌++◌, ℕ, ℤ, pos, List, length, take, get_or, below_more, sym, ap, ◌∙◌}
use borrow.Rule.Slice.PartMut.{put_mid, post_of}
use Rattle.std.proofs.lemmas.List.{length-take-le, get_or-take, get_or_append_left, get_or-append-add}
use Rattle.std.proofs.lemmas.Nat.{mul-add-lt}

before_part : (xs ys : List ℤ) (a end i : ℕ) → i < a → a ≤ length xs → get_or (put_mid a end xs ys) i (pos 0) ≡ get_or xs i (pos 0)
before_part xs ys a end i h room =
    let long = length-take-le a xs room in
    let within : i < length (take a xs) = omega arith in
    get_or_append_left (take a xs) (ys ++ post_of a end xs) (pos 0) i within ∙ get_or-take a xs i (pos 0) h

in_part : (xs ys : List ℤ) (a end j : ℕ) → j < length ys → a ≤ length xs → get_or (put_mid a end xs ys) (a + j) (pos 0) ≡ get_or ys j (pos 0)
in_part xs ys a end j h room =
    let long = length-take-le a xs room in
    ap (λ (k : ℕ). get_or (put_mid a end xs ys) (k + j) (pos 0)) (sym long) ∙ get_or-append-add (take a xs) (ys ++ post_of a end xs) j (pos 0) ∙ get_or_append_left ys (post_of a end xs) (pos 0) j h

-- one row more
pub row_more : (xs ys : List ℤ) (c ticks end : ℕ) (f : ℕ → ℕ → ℤ) → (c + 1) * ticks ≤ length xs → length ys ≡ ticks → ((d m : ℕ) → d < c → m < ticks → get_or xs (d * ticks + m) (pos 0) ≡ f m d)
    → ((m : ℕ) → m < ticks → get_or ys m (pos 0) ≡ f m c) → (d m : ℕ) → d < c + 1 → m < ticks → get_or (put_mid (c * ticks) end xs ys) (d * ticks + m) (pos 0) ≡ f m d
row_more xs ys c ticks end f room long before here = λ d m low within.
    below_more (λ e. (k : ℕ) → k < ticks → get_or (put_mid (c * ticks) end xs ys) (e * ticks + k) (pos 0) ≡ f k e) c
    (λ e less k h. let below = mul-add-lt e ticks k c less h in before_part xs ys (c * ticks) end (e * ticks + k) (omega arith) (omega arith) ∙ before e k less h)
    (λ k h. in_part xs ys (c * ticks) end k (omega arith) (omega arith) ∙ here k h)
    d low m within
