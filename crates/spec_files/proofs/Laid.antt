-- The samples of a written file.
use Rattle.std.proofs.Common.{◌≡◌, ℕ, suc, ◌+◌, ◌-◌, ◌≤◌, Bool, true, false, List, [], ◌∷◌, ◌++◌, length, map, take, drop, Ok, refl, sym, ap, ◌∙◌, arith, length-append}
use Rattle.std.specs.Prelude.{◌==◌, slice_range, All}
use Rattle.std.specs.List.{flat_map}
use Rattle.std.proofs.lemmas.Bool.{le-leb, eqb-true}
use Rattle.std.proofs.lemmas.List.{append-nil, length-map}
use Rattle.std.proofs.Math.Seq.{take-length, drop-length}
use Rattle.spec_boxes.specs.Tables.{chunk_counts, TableBoxes}
use Rattle.spec_boxes.specs.Spans.{lay, spans, fit}
use Rattle.spec_boxes.specs.ObuLists.{are_obus, in_sample}
use Rattle.spec_boxes.specs.Tracks.{sample_bytes, samples_at, spans_of}
use Rattle.spec_files.specs.MovieFile.{Movie, count}
use Rattle.spec_files.proofs.Placed.{Lies, lies_left, lies_right, lies_slice}
use Rattle.spec_files.proofs.Tabled.{chunk_count, chunk_places, chunk_runs, tables_of}

-- each unit passes as a sample
abbrev pub AreUnits : List (List ℕ) → Type 0
AreUnits us = All (λ u. are_obus in_sample u ≡ true) us

abbrev joined : List (List ℕ) → List ℕ
joined us = flat_map (λ u. u) us

one_chunk : (t : Bool) (place : ℕ) (us : List (List ℕ)) → (length us == 0) ≡ t
    → spans (chunk_places t place) (chunk_counts (chunk_runs t (length us)) (chunk_count t)) (map length us) ≡ lay place (map length us)
one_chunk true place [] is = refl
one_chunk true place (u ∷ us) is = absurd (let e : length (u ∷ us) ≡ 0 = eqb-true _ 0 is in omega arith)
one_chunk false place [] is = cc
one_chunk false place (u ∷ us) is =
    let n : length (u ∷ us) ≡ length (map length (u ∷ us)) = sym (length-map (u ∷ us) length) in
    let a : take (length (u ∷ us)) (map length (u ∷ us)) ≡ map length (u ∷ us) = ap (λ (k : ℕ). take k (map length (u ∷ us))) n ∙ take-length (map length (u ∷ us)) in
    let b : drop (length (u ∷ us)) (map length (u ∷ us)) ≡ [] = ap (λ (k : ℕ). drop k (map length (u ∷ us))) n ∙ drop-length (map length (u ∷ us)) in
    let s : spans (place ∷ []) (length (u ∷ us) ∷ []) (map length (u ∷ us)) ≡ lay place (take (length (u ∷ us)) (map length (u ∷ us))) ++ spans [] [] (drop (length (u ∷ us)) (map length (u ∷ us))) = refl in
    s ∙ ap (λ (x : List ℕ). lay place x ++ spans [] [] (drop (length (u ∷ us)) (map length (u ∷ us)))) a
    ∙ ap (λ (x : List ℕ). lay place (map length (u ∷ us)) ++ spans [] [] x) b ∙ append-nil (lay place (map length (u ∷ us)))

pub spans_are : (m : Movie) (place : ℕ) (t : TableBoxes) → spans_of (tables_of m place t) ≡ lay place (map length m.units)
spans_are m place t = one_chunk (count m == 0) place m.units refl

-- the units lie end to end
pub units_read : (f : List ℕ) (us : List (List ℕ)) (place : ℕ) → Lies f place (joined us) → map (sample_bytes f) (lay place (map length us)) ≡ us
units_read f [] place l = refl
units_read f (u ∷ us) place l =
    let a : slice_range f place (place + length u) ≡ u = lies_slice f place (place + length u) u refl (lies_left f place u (joined us) l) in
    rw a (ap (λ (x : List (List ℕ)). u ∷ x) (units_read f us (place + length u) (lies_right f place u (joined us) (place + length u) refl l)))

pub units_fit : (us : List (List ℕ)) (place len room : ℕ) → place + length (joined us) ≤ len → length (joined us) ≤ room → fit len room (lay place (map length us)) ≡ true
units_fit [] place len room within enough = refl
units_fit (u ∷ us) place len room within enough =
    let n = length-append u (joined us) in
    rw (le-leb (place + length u) len (omega (arith, n)), le-leb (length u) room (omega (arith, n))) (units_fit us (place + length u) len (room - length u) (omega (arith, n)) (omega (arith, n)))

pub units_are : (f : List ℕ) (us : List (List ℕ)) (place : ℕ) → Lies f place (joined us) → All (λ u. are_obus in_sample u ≡ true) us → samples_at f (lay place (map length us)) ≡ Ok tt
units_are f [] place l fine = refl
units_are f (u ∷ us) place l fine =
    let a : slice_range f place (place + length u) ≡ u = lies_slice f place (place + length u) u refl (lies_left f place u (joined us) l) in
    let first : are_obus in_sample u ≡ true = fine 0 [] (omega arith) in
    rw (a, first) (units_are f us (place + length u) (lies_right f place u (joined us) (place + length u) refl l) (λ k d less. fine (suc k) d (omega arith)))
