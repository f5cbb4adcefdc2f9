-- One more range.
use Rattle.std.proofs.Common.{◌≡◌, ℕ, ◌+◌, ◌≤◌, ◌<◌, List, [], ◌∷◌, ◌++◌, refl, sym, subst, arith}
use Rattle.std.specs.Prelude.{slice_range}
use Rattle.std.specs.Borrow.{Bor}
use Rattle.std.proofs.lemmas.List.{map-append}
use Rattle.iamf_mux.specs.Ranges.{AreRanges, parts}

pub past_more : (b : List ℕ) (from : ℕ) (xs : List (List ℕ)) (past more : ℕ) → AreRanges b from xs past → past ≤ more → AreRanges b from xs more
past_more b from [] past more are le = omega (arith, are, le)
past_more b from (x ∷ xs) past more are le = (are.0, are.1, are.2, are.3, are.4, past_more b (are.1 + 1) xs past more are.5 le)

pub one_more : (b : List ℕ) (from : ℕ) (xs : List (List ℕ)) (past start end : ℕ) → AreRanges b from xs past → past ≤ start → start < end → AreRanges b from (xs ++ slice_range b start end ∷ []) (end + 1)
one_more b from [] past start end are le some = (start, end, omega (arith, are, le), some, refl, omega arith)
one_more b from (x ∷ xs) past start end are le some = (are.0, are.1, are.2, are.3, are.4, one_more b (are.1 + 1) xs past start end are.5 le some)

-- one more slice
pub one_slice : (b : List ℕ) (slices : List (Bor (List ℕ))) (slice : Bor (List ℕ)) (past start end : ℕ) → AreRanges b 0 (parts slices) past → past ≤ start → start < end → slice.now ≡ slice_range b start end → AreRanges b 0 (parts (slices ++ slice ∷ [])) (end + 1)
one_slice b slices slice past start end are le some is =
    subst (λ (xs : List (List ℕ)). AreRanges b 0 xs (end + 1)) (sym (map-append (λ (s : Bor (List ℕ)). s.now) slices (slice ∷ [])))
    (subst (λ (x : List ℕ). AreRanges b 0 (parts slices ++ x ∷ []) (end + 1)) (sym is) (one_more b 0 (parts slices) past start end are le some))
