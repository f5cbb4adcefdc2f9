-- Walks over lists of layers and of parameters.
use Rattle.std.proofs.Common.{arith, ◌≡◌, ◌<◌, ◌≤◌, ◌+◌, ◌-◌, ℕ, zero, suc, refl, sym, ap, ◌∙◌, Bool, true, false, ◌||◌, List, [], ◌∷◌, ◌++◌, map, take, drop, length, get_or}
use Rattle.std.specs.List.{list_any, flat_map}
use Rattle.std.proofs.lemmas.List.{take_all}
use Rattle.spec_layouts.specs.declared.Layout.{Layout}
use Rattle.obu_element_config.specs.declared.layer.Layer.{Layer}
use Rattle.obu_element_config.specs.LayerView.{view_layer}
use Rattle.demix_channels.proofs.SeenLayers.{no_layer}
use Rattle.spec_play.specs.UsedLayers.{is_of, layers_up_to, is_mixed_down, need_parameters}

pub list_any-map : {X Y : Type 0} (p : Y → Bool) (f : X → Y) (xs : List X) → list_any p (map f xs) ≡ list_any (λ x. p (f x)) xs
list_any-map p f [] = refl
list_any-map p f (x ∷ xs) = ap (λ b. p (f x) || b) (list_any-map p f xs)

nothing_joined : {Y : Type 0} (a b : List Y) → a ++ b ≡ [] → (a ≡ []) × (b ≡ [])
nothing_joined [] b e = (refl, e)
nothing_joined (y ∷ a) b e = absurd (cc)

pub flat_map-map : {X Y Z : Type 0} (g : Y → List Z) (f : X → Y) (xs : List X) → flat_map g (map f xs) ≡ flat_map (λ x. g (f x)) xs
flat_map-map g f [] = refl
flat_map-map g f (x ∷ xs) = ap (λ ys. g (f x) ++ ys) (flat_map-map g f xs)

-- ---- the layers up to that of a layout

pub found_here : (layout : Layout) (layers : List Layer) (i : ℕ) → i < length layers → ((k : ℕ) → k < i → is_of layout (view_layer (get_or layers k no_layer)) ≡ false)
    → is_of layout (view_layer (get_or layers i no_layer)) ≡ true → layers_up_to layout (map view_layer layers) ≡ map view_layer (take (suc i) layers)
found_here layout [] i h others own = absurd (omega arith)
found_here layout (layer ∷ layers) zero h others own = let e : is_of layout (view_layer layer) ≡ true = own in rw e refl
found_here layout (layer ∷ layers) (suc i) h others own =
    let e : is_of layout (view_layer layer) ≡ false = others 0 (omega arith) in
    let rest = found_here layout layers i (omega arith) (λ k low. others (suc k) (omega arith)) own in
    rw e (ap (λ ls. view_layer layer ∷ ls) rest)

pub found_nowhere : (layout : Layout) (layers : List Layer) → ((k : ℕ) → k < length layers → is_of layout (view_layer (get_or layers k no_layer)) ≡ false)
    → layers_up_to layout (map view_layer layers) ≡ map view_layer layers
found_nowhere layout [] others = refl
found_nowhere layout (layer ∷ layers) others =
    let e : is_of layout (view_layer layer) ≡ false = others 0 (omega arith) in
    let rest = found_nowhere layout layers (λ k low. others (suc k) (omega arith)) in
    rw e (ap (λ ls. view_layer layer ∷ ls) rest)

-- ---- the layers that need parameters

-- the steps before i need none
abbrev pub NeedsAfter : List Layer → ℕ → Type 0
NeedsAfter layers i = need_parameters (map view_layer layers) ≡ need_parameters (map view_layer (drop (i - 1) layers))

need_step : (layers : List Layer) (j : ℕ) → suc j < length layers
    → need_parameters (map view_layer (drop j layers)) ≡ (is_mixed_down (get_or layers j no_layer).layout (get_or layers (suc j) no_layer).layout || need_parameters (map view_layer (drop (suc j) layers)))
need_step [] j h = absurd (omega arith)
need_step (a ∷ []) j h = absurd (omega arith)
need_step (a ∷ b ∷ layers) zero h = refl
need_step (a ∷ b ∷ layers) (suc j) h = need_step (b ∷ layers) j (omega arith)

need_last : (layers : List Layer) (n : ℕ) → length layers ≤ suc n → need_parameters (map view_layer (drop n layers)) ≡ false
need_last [] zero h = refl
need_last [] (suc n) h = refl
need_last (a ∷ []) zero h = refl
need_last (a ∷ b ∷ layers) zero h = absurd (omega arith)
need_last (a ∷ layers) (suc n) h = need_last layers n (omega arith)

pub needed_here : (layers : List Layer) (i : ℕ) → 1 ≤ i → i < length layers → is_mixed_down (get_or layers (i - 1) no_layer).layout (get_or layers i no_layer).layout ≡ true
    → NeedsAfter layers i → true ≡ need_parameters (map view_layer layers)
needed_here layers zero some h mixed before = absurd (omega arith)
needed_here layers (suc j) some h mixed before =
    let e : suc j - 1 ≡ j = omega arith in
    let m : is_mixed_down (get_or layers j no_layer).layout (get_or layers (suc j) no_layer).layout ≡ true = rw e at mixed in
    let b : need_parameters (map view_layer layers) ≡ need_parameters (map view_layer (drop j layers)) = rw e at before in
    sym (b ∙ need_step layers j h ∙ rw m refl)

pub not_needed : (layers : List Layer) (i : ℕ) → 1 ≤ i → i < length layers → is_mixed_down (get_or layers (i - 1) no_layer).layout (get_or layers i no_layer).layout ≡ false
    → NeedsAfter layers i → NeedsAfter layers (i + 1)
not_needed layers zero some h mixed before = absurd (omega arith)
not_needed layers (suc j) some h mixed before =
    let e : suc j - 1 ≡ j = omega arith in
    let f : suc j + 1 - 1 ≡ suc j = omega arith in
    let m : is_mixed_down (get_or layers j no_layer).layout (get_or layers (suc j) no_layer).layout ≡ false = rw e at mixed in
    let b : need_parameters (map view_layer layers) ≡ need_parameters (map view_layer (drop j layers)) = rw e at before in
    rw f (b ∙ need_step layers j h ∙ rw m refl)

pub needed_nowhere : (layers : List Layer) (i : ℕ) → length layers ≤ i → NeedsAfter layers i → false ≡ need_parameters (map view_layer layers)
needed_nowhere layers i h before = sym (before ∙ need_last layers (i - 1) (omega arith))

-- ---- the first of the lists of each item

pub first_found : {X Y : Type 0} (f : X → List Y) (xs : List X) (i : ℕ) (x : X) (y : Y) → i < length xs → x ≡ get_or xs i x → flat_map f (take i xs) ≡ [] → f x ≡ y ∷ [] → y ∷ [] ≡ take 1 (flat_map f xs)
first_found f [] i x y h is before here = absurd (omega arith)
first_found f (z ∷ xs) zero x y h is before here = let e : x ≡ z = is in let t : f z ≡ y ∷ [] = sym (ap f e) ∙ here in rw t refl
first_found f (z ∷ xs) (suc i) x y h is before here =
    let both = nothing_joined (f z) (flat_map f (take i xs)) before in
    rw (both.0) (first_found f xs i x y (omega arith) is both.1 here)

pub none_found : {X Y : Type 0} (f : X → List Y) (xs : List X) (i : ℕ) (x : X) → i < length xs → x ≡ get_or xs i x → flat_map f (take i xs) ≡ [] → f x ≡ [] → flat_map f (take (suc i) xs) ≡ []
none_found f [] i x h is before here = absurd (omega arith)
none_found f (z ∷ xs) zero x h is before here = let e : x ≡ z = is in let t : f z ≡ [] = sym (ap f e) ∙ here in rw t refl
none_found f (z ∷ xs) (suc i) x h is before here =
    let both = nothing_joined (f z) (flat_map f (take i xs)) before in
    let rest = none_found f xs i x (omega arith) is both.1 here in
    rw (both.0) rest

pub found_in_none : {X Y : Type 0} (f : X → List Y) (xs : List X) (i : ℕ) → length xs ≤ i → flat_map f (take i xs) ≡ [] → [] ≡ take 1 (flat_map f xs)
found_in_none f xs i h none =
    let all : flat_map f xs ≡ [] = ap (flat_map f) (sym (take_all i xs h)) ∙ none in
    rw all refl
