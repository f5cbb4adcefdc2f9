-- Counts and sums over the elements of a mix, one that the mix names after the other.
use Rattle.std.proofs.Common.{arith, ◌≡◌, ◌≤◌, ◌+◌, ℕ, zero, suc, refl, sym, ap, ◌∙◌, true, false, not, List, [], ◌∷◌, ◌++◌, take, drop, length, length-append, append_assoc, Some}
use Rattle.std.specs.Prelude.{slice_get, nat_le, ◌==◌, ◌*◌, ◌%◌, ◌^◌}
use Rattle.std.specs.List.{list_any, flat_map, sum_by}
use Rattle.std.proofs.lemmas.Bool.{eq-eqb}
use Rattle.std.proofs.lemmas.List.Sums.{sum_by-append}
use Rattle.spec_descriptors.specs.AudioElement.{AudioElementFields}
use Rattle.spec_descriptors.specs.MixPresentation.{MixElementFields}
use Rattle.spec_play.specs.Mixes.{MixedElement, mixed_element, mixed_elements}
use Rattle.spec_play.specs.Waves.{outputs_in, output_counts, first_count}
use Rattle.spec_play.specs.Selection.{are_different}
use Rattle.iamf_select.proofs.Joined.{joined_more}
use Rattle.iamf_elements.proofs.Searches.{any_of_here, any_of_next}

pub counted : {X Y : Type 0} (f : X → List Y) (xs : List X) (i : ℕ) (x : X) (count n : ℕ) → slice_get xs i ≡ Some x → count ≡ length (flat_map f (take i xs)) → n ≡ length (f x)
    → count + n ≡ length (flat_map f (take (i + 1) xs))
counted f xs i x count n e seen own =
    let more = ap length (joined_more f xs i x e) in
    let both = length-append (flat_map f (take i xs)) (f x) in
    omega arith

pub summed : {X Y : Type 0} (g : Y → ℕ) (f : X → List Y) (xs : List X) (i : ℕ) (x : X) (total n : ℕ) → slice_get xs i ≡ Some x → total ≡ sum_by g (flat_map f (take i xs)) → n ≡ sum_by g (f x)
    → total + n ≡ sum_by g (flat_map f (take (i + 1) xs))
summed g f xs i x total n e seen own =
    let more = ap (sum_by g) (joined_more f xs i x e) in
    let both = sum_by-append g (flat_map f (take i xs)) (f x) in
    omega arith

joined_split : {X Y : Type 0} (f : X → List Y) (xs : List X) (i : ℕ) → flat_map f xs ≡ flat_map f (take i xs) ++ flat_map f (drop i xs)
joined_split f [] zero = refl
joined_split f [] (suc i) = refl
joined_split f (x ∷ xs) zero = refl
joined_split f (x ∷ xs) (suc i) = ap (λ ys. f x ++ ys) (joined_split f xs i) ∙ sym (append_assoc (f x) (flat_map f (take i xs)) (flat_map f (drop i xs)))

-- what some of the items add up to is within the whole
pub within_sum : {X Y : Type 0} (g : Y → ℕ) (f : X → List Y) (xs : List X) (i : ℕ) → sum_by g (flat_map f (take i xs)) ≤ sum_by g (flat_map f xs)
within_sum g f xs i =
    let split = ap (sum_by g) (joined_split f xs i) in
    let both = sum_by-append g (flat_map f (take i xs)) (flat_map f (drop i xs)) in
    omega arith

at_seam : {Y : Type 0} (before : List Y) (y : Y) (after : List Y) (i : ℕ) → i ≡ length before → slice_get ((before ++ y ∷ []) ++ after) i ≡ Some y
at_seam [] y after zero e = refl
at_seam [] y after (suc i) e = absurd (omega arith)
at_seam (x ∷ before) y after zero e = absurd (omega arith)
at_seam (x ∷ before) y after (suc i) e = at_seam before y after i (omega arith)

-- the item at a place among all, where that many were passed before
pub got_joined : {X Y : Type 0} (f : X → List Y) (xs : List X) (k : ℕ) (x : X) (y : Y) (left i : ℕ) → slice_get xs k ≡ Some x → f x ≡ y ∷ [] → left ≡ 0 → left + length (flat_map f (take k xs)) ≡ i
    → slice_get (flat_map f xs) i ≡ Some y
got_joined f xs k x y left i e own none at =
    let front = joined_more f xs k x e ∙ ap (λ ys. flat_map f (take k xs) ++ ys) own in
    let whole = joined_split f xs (k + 1) ∙ ap (λ ys. ys ++ flat_map f (drop (k + 1) xs)) front in
    ap (λ ys. slice_get ys i) whole ∙ at_seam (flat_map f (take k xs)) y (flat_map f (drop (k + 1) xs)) i (omega arith)

-- of numbers two differ where one is not the first
pub different_is : (ns : List ℕ) → are_different ns ≡ list_any (λ m. not (m == first_count ns)) ns
different_is [] = refl
different_is (n ∷ ns) = let same = eq-eqb n n refl in rw same refl

flat_map-joined : {X Y : Type 0} (g : X → List Y) (xs ys : List X) → flat_map g (xs ++ ys) ≡ flat_map g xs ++ flat_map g ys
flat_map-joined g [] ys = refl
flat_map-joined g (x ∷ xs) ys = ap (λ zs. g x ++ zs) (flat_map-joined g xs ys) ∙ sym (append_assoc (g x) (flat_map g xs) (flat_map g ys))

pub flat_map-flat_map : {X Y Z : Type 0} (g : Y → List Z) (f : X → List Y) (xs : List X) → flat_map g (flat_map f xs) ≡ flat_map (λ x. flat_map g (f x)) xs
flat_map-flat_map g f [] = refl
flat_map-flat_map g f (x ∷ xs) = flat_map-joined g (f x) (flat_map f xs) ∙ ap (λ ys. flat_map g (f x) ++ ys) (flat_map-flat_map g f xs)

pub first_count_is : (ns : List ℕ) (n : ℕ) → n ∷ [] ≡ take 1 ns → n ≡ first_count ns
first_count_is [] n e = absurd (cc)
first_count_is (m ∷ ns) n e = cc

pub no_first_count : (ns : List ℕ) → [] ≡ take 1 ns → 0 ≡ first_count ns
no_first_count [] e = refl
no_first_count (m ∷ ns) e = absurd (cc)

-- ---- outputs

outputs_of_both : (a b : List MixedElement) → output_counts (a ++ b) ≡ output_counts a ++ output_counts b
outputs_of_both a b = flat_map-joined (λ (m : MixedElement). outputs_in m.element.config) a b

-- an element without outputs
pub outputs_joined : (es : List AudioElementFields) (xs : List MixElementFields) (i : ℕ) (x : MixElementFields) → slice_get xs i ≡ Some x → output_counts (mixed_elements es (take i xs)) ≡ []
    → output_counts (mixed_element es x) ≡ [] → output_counts (mixed_elements es (take (i + 1) xs)) ≡ []
outputs_joined es xs i x e seen own =
    ap output_counts (joined_more (mixed_element es) xs i x e) ∙ outputs_of_both (mixed_elements es (take i xs)) (mixed_element es x) ∙ rw (seen, own) refl

-- the first element with outputs
pub first_of_joined : (es : List AudioElementFields) (xs : List MixElementFields) (i : ℕ) (x : MixElementFields) (n : ℕ) → slice_get xs i ≡ Some x → output_counts (mixed_elements es (take i xs)) ≡ []
    → output_counts (mixed_element es x) ≡ n ∷ [] → n ≡ first_count (output_counts (mixed_elements es xs))
first_of_joined es xs i x n e seen own =
    let split = ap output_counts (joined_split (mixed_element es) xs (i + 1)) ∙ outputs_of_both (mixed_elements es (take (i + 1) xs)) (mixed_elements es (drop (i + 1) xs)) in
    let front : output_counts (mixed_elements es (take (i + 1) xs)) ≡ n ∷ [] =
    ap output_counts (joined_more (mixed_element es) xs i x e) ∙ outputs_of_both (mixed_elements es (take i xs)) (mixed_element es x) ∙ rw (seen, own) refl
    in
    let whole = split ∙ ap (λ ns. ns ++ output_counts (mixed_elements es (drop (i + 1) xs))) front in
    sym (ap first_count whole)

-- an element with another number of outputs than the first
pub other_here : (es : List AudioElementFields) (xs : List MixElementFields) (i : ℕ) (x : MixElementFields) (first : ℕ) → slice_get xs i ≡ Some x → first ≡ first_count (output_counts (mixed_elements es xs))
    → list_any (λ n. not (n == first)) (output_counts (mixed_element es x)) ≡ true → true ≡ are_different (output_counts (mixed_elements es xs))
other_here es xs i x first e is own =
    let joined : output_counts (mixed_elements es xs) ≡ flat_map (λ y. output_counts (mixed_element es y)) xs = flat_map-flat_map (λ (m : MixedElement). outputs_in m.element.config) (mixed_element es) xs in
    let some = any_of_here (λ n. not (n == first)) (λ y. output_counts (mixed_element es y)) xs i x e own in
    some ∙ ap (list_any (λ n. not (n == first))) (sym joined) ∙ ap (λ f. list_any (λ n. not (n == f)) (output_counts (mixed_elements es xs))) is ∙ sym (different_is (output_counts (mixed_elements es xs)))

pub other_next : (es : List AudioElementFields) (xs : List MixElementFields) (i : ℕ) (x : MixElementFields) (first : ℕ) → slice_get xs i ≡ Some x
    → list_any (λ n. not (n == first)) (output_counts (mixed_elements es (take i xs))) ≡ false → list_any (λ n. not (n == first)) (output_counts (mixed_element es x)) ≡ false
    → list_any (λ n. not (n == first)) (output_counts (mixed_elements es (take (i + 1) xs))) ≡ false
other_next es xs i x first e seen own =
    let joined : (ys : List MixElementFields) → output_counts (mixed_elements es ys) ≡ flat_map (λ y. output_counts (mixed_element es y)) ys = λ ys. flat_map-flat_map (λ (m : MixedElement). outputs_in m.element.config) (mixed_element es) ys in
    let before = ap (list_any (λ n. not (n == first))) (sym (joined (take i xs))) ∙ seen in
    ap (list_any (λ n. not (n == first))) (joined (take (i + 1) xs)) ∙ any_of_next (λ n. not (n == first)) (λ y. output_counts (mixed_element es y)) xs i x before e own

-- ---- the size of the WAV file

pub size_is : (frames frames' channels channels' bytes bytes' : ℕ) → frames ≡ frames' → channels ≡ channels' → bytes ≡ bytes'
    → nat_le (2 ^ 32) (60 + frames * (channels * bytes) + frames * (channels * bytes) % 2) ≡ nat_le (2 ^ 32) (60 + frames' * (channels' * bytes') + frames' * (channels' * bytes') % 2)
size_is frames frames' channels channels' bytes bytes' e f g = rw (e, f, g) refl
