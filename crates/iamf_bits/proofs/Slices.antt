-- The bytes of slices, one slice after the other.
use Rattle.std.proofs.Common.{◌≡◌, ℕ, suc, ◌+◌, ◌<◌, List, [], ◌++◌, Bor, length, get_or, take, drop, drop-cons, add-one, sym, ap, ◌∙◌, length-append}
use Rattle.std.proofs.lemmas.List.{take_more, flat_map_more}
use Rattle.std.specs.List.{flat_map}

abbrev pub all_of : List (Bor (List ℕ)) → List ℕ
all_of slices = flat_map (λ s. s.now) slices

pub no_slice : Bor (List ℕ)
no_slice = record { ref_ptr = (0, 0); now = [] }

pub left_of : (slices : List (Bor (List ℕ))) (i : ℕ) → i < length slices → length (all_of (drop i slices)) ≡ length (get_or slices i no_slice).now + length (all_of (drop (i + 1) slices))
left_of slices i there = rw (add-one i, drop-cons slices i no_slice there) (length-append (get_or slices i no_slice).now (all_of (drop (suc i) slices)))

pub more_of : (before : List ℕ) (slices : List (Bor (List ℕ))) (i : ℕ) → i < length slices → (before ++ all_of (take i slices)) ++ (get_or slices i no_slice).now ≡ before ++ all_of (take (i + 1) slices)
more_of before slices i there =
    flat_map_more (λ (s : Bor (List ℕ)). s.now) before (take i slices) (get_or slices i no_slice) ∙ ap (λ (ss : List (Bor (List ℕ))). before ++ all_of ss) (sym (take_more slices i no_slice there))
