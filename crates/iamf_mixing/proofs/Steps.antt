-- One step of a loop that writes the elements of a list in their order.
use Rattle.std.proofs.Common.{arith, ◌≡◌, ◌≢◌, ◌<◌, ◌≤◌, ◌+◌, ℕ, ℤ, pos, unsigned_abs, List, length, get_or, get_or-set_same, get_or-set_other, below_more}
use Rattle.std.proofs.Math.ListN.{set}

pub set_below : {X : Type 0} (xs : List X) (i : ℕ) (v d : X) (f : ℕ → X) → i < length xs → ((k : ℕ) → k < i → get_or xs k d ≡ f k) → v ≡ f i
    → (k : ℕ) → k < i + 1 → get_or (set xs i v) k d ≡ f k
set_below xs i v d f h before here =
    below_more (λ k. get_or (set xs i v) k d ≡ f k) i (λ k low. let ne : k ≢ i = omega arith in rw get_or-set_other (before k low)) (rw get_or-set_same here)

pub set_above : {X : Type 0} (xs : List X) (i : ℕ) (v d : X) (f : ℕ → X) → ((k : ℕ) → i ≤ k → get_or xs k d ≡ f k) → (k : ℕ) → i + 1 ≤ k → get_or (set xs i v) k d ≡ f k
set_above xs i v d f after k h = let ne : k ≢ i = omega arith in rw get_or-set_other (after k (omega arith))

-- none but the next grows, by at most so much
pub growth_more : (xs first : List ℤ) (i : ℕ) (v : ℤ) (most : ℕ) → i < length xs → ((k : ℕ) → k < i → unsigned_abs (get_or xs k (pos 0)) ≤ unsigned_abs (get_or first k (pos 0)) + most)
    → unsigned_abs v ≤ unsigned_abs (get_or first i (pos 0)) + most → (k : ℕ) → k < i + 1 → unsigned_abs (get_or (set xs i v) k (pos 0)) ≤ unsigned_abs (get_or first k (pos 0)) + most
growth_more xs first i v most h before here =
    below_more (λ k. unsigned_abs (get_or (set xs i v) k (pos 0)) ≤ unsigned_abs (get_or first k (pos 0)) + most) i (λ k low. let ne : k ≢ i = omega arith in rw get_or-set_other (before k low)) (rw get_or-set_same here)
