-- The channels of substreams, of which the coupled ones come first.
use Rattle.std.proofs.Common.{◌≡◌, ℕ, zero, suc, ◌+◌, ◌-◌, ◌<◌, ◌≤◌, List, [], ◌∷◌, ◌++◌, Some, length, get_or, drop, drop-cons, add-one, refl, sym, ap, ◌∙◌, arith, length-append}
use Rattle.std.specs.Prelude.{replicate, slice_get}
use Rattle.std.proofs.lemmas.List.{append-nil, length-replicate}
use Rattle.spec_descriptors.specs.Layers.{LayerFields}
use Rattle.spec_descriptors.specs.AudioElement.{coupled_first}
use Rattle.spec_descriptors.proofs.OnEach.{Each}
use Rattle.spec_descriptors.proofs.ElementCounts.{IsCoupled}
use Rattle.obu_element_config.specs.declared.layer.Layer.{Layer}
use Rattle.obu_descriptors.specs.Channels.{AreCoupled}

pub each_coupled : (list : List LayerFields) → Each IsCoupled list → AreCoupled list
each_coupled [] all = tt
each_coupled (layer ∷ list) all = (all.0, each_coupled list all.1)

-- ---- one of the substreams

get_replicate : (n i x : ℕ) → i < n → slice_get (replicate n x) i ≡ Some x
get_replicate zero i x lt = absurd (omega arith)
get_replicate (suc n) zero x lt = refl
get_replicate (suc n) (suc i) x lt = get_replicate n i x (omega arith)

get_before : (xs ys : List ℕ) (i : ℕ) → i < length xs → slice_get (xs ++ ys) i ≡ slice_get xs i
get_before [] ys i lt = absurd (omega arith)
get_before (x ∷ xs) ys zero lt = refl
get_before (x ∷ xs) ys (suc i) lt = get_before xs ys i (omega arith)

get_after : (xs ys : List ℕ) (i : ℕ) → length xs ≤ i → slice_get (xs ++ ys) i ≡ slice_get ys (i - length xs)
get_after [] ys i le = let e : i - 0 ≡ i = omega arith in rw e refl
get_after (x ∷ xs) ys zero le = absurd (omega arith)
get_after (x ∷ xs) ys (suc i) le =
    let e : suc i - suc (length xs) ≡ i - length xs = omega arith in
    rw e (get_after xs ys i (omega arith))

pub coupled_there : (substreams coupled i : ℕ) (rest : List ℕ) → i < coupled → slice_get (coupled_first substreams coupled ++ rest) i ≡ Some 2
coupled_there substreams coupled i rest lt =
    let twos : List ℕ = replicate coupled 2 in
    let ones : List ℕ = replicate (substreams - coupled) 1 in
    let few : i < length twos = omega (arith, length-replicate {A = ℕ} coupled 2) in
    get_before (twos ++ ones) rest i (omega (arith, few, length-append twos ones)) ∙ get_before twos ones i few ∙ get_replicate coupled i 2 lt

pub single_there : (substreams coupled i : ℕ) (rest : List ℕ) → coupled ≤ i → i < substreams → slice_get (coupled_first substreams coupled ++ rest) i ≡ Some 1
single_there substreams coupled i rest le lt =
    let twos : List ℕ = replicate coupled 2 in
    let ones : List ℕ = replicate (substreams - coupled) 1 in
    let size : length twos ≡ coupled = length-replicate {A = ℕ} coupled 2 in
    get_before (twos ++ ones) rest i (omega (arith, size, length-append twos ones, length-replicate {A = ℕ} (substreams - coupled) 1))
    ∙ get_after twos ones i (omega (arith, size))
    ∙ get_replicate (substreams - coupled) (i - length twos) 1 (omega (arith, size))

pub others_there : (substreams coupled i : ℕ) (rest : List ℕ) → coupled ≤ substreams → substreams ≤ i → slice_get (coupled_first substreams coupled ++ rest) i ≡ slice_get rest (i - substreams)
others_there substreams coupled i rest le past =
    let twos : List ℕ = replicate coupled 2 in
    let ones : List ℕ = replicate (substreams - coupled) 1 in
    let size : length (twos ++ ones) ≡ substreams = omega (arith, length-append twos ones, length-replicate {A = ℕ} coupled 2, length-replicate {A = ℕ} (substreams - coupled) 1) in
    get_after (twos ++ ones) rest i (omega (arith, size)) ∙ ap (λ (k : ℕ). slice_get rest (i - k)) size

pub coupled_only : (substreams coupled i : ℕ) → i < coupled → slice_get (coupled_first substreams coupled) i ≡ Some 2
coupled_only substreams coupled i lt = ap (λ (xs : List ℕ). slice_get xs i) (sym (append-nil (coupled_first substreams coupled))) ∙ coupled_there substreams coupled i [] lt

pub single_only : (substreams coupled i : ℕ) → coupled ≤ i → i < substreams → slice_get (coupled_first substreams coupled) i ≡ Some 1
single_only substreams coupled i le lt = ap (λ (xs : List ℕ). slice_get xs i) (sym (append-nil (coupled_first substreams coupled))) ∙ single_there substreams coupled i [] le lt

-- ---- the layers from one on

pub drop_next : (list : List Layer) (i : ℕ) (blank : Layer) → i < length list → drop i list ≡ get_or list i blank ∷ drop (i + 1) list
drop_next list i blank lt = rw (add-one, drop-cons list i blank) refl
