-- The bytes of slices, one after the other.
use Rattle.std.proofs.Common.{◌≡◌, ℕ, zero, suc, ◌+◌, ◌<◌, ◌≤◌, List, [], ◌∷◌, length, take, get_or, arith, length-append}
use Rattle.std.specs.Borrow.{Bor}
use Rattle.mp4_file.specs.Slices.{joined}

pub piece_small : (us : List (Bor (List ℕ))) (i : ℕ) (d : Bor (List ℕ)) → length d.now ≡ 0 → length (get_or us i d).now ≤ length (joined us)
piece_small [] i d none = omega (arith, none)
piece_small (u ∷ us) zero d none = omega (arith, length-append u.now (joined us))
piece_small (u ∷ us) (suc i) d none = omega (arith, piece_small us i d none, length-append u.now (joined us))

pub taken_small : (us : List (Bor (List ℕ))) (i : ℕ) (d : Bor (List ℕ)) → i < length us → length (joined (take i us)) + length (get_or us i d).now ≤ length (joined us)
taken_small [] i d less = absurd (omega arith)
taken_small (u ∷ us) zero d less = omega (arith, length-append u.now (joined us))
taken_small (u ∷ us) (suc i) d less = omega (arith, taken_small us i d (omega arith), length-append u.now (joined us), length-append u.now (joined (take i us)))
