-- The values of a mix, one after the other.
use Rattle.std.proofs.Common.{arith, ◌≡◌, ◌<◌, ◌≤◌, ◌+◌, ◌*◌, ℕ, zero, suc, ℤ, pos, ◌+ℤ◌, refl, sym, ap, ◌∙◌, add-one, List, [], ◌∷◌, ◌++◌, map, length, take, get_or, Some, append-nil, length-append}
use Rattle.std.specs.Prelude.{slice_get}
use Rattle.std.specs.List.{flat_map, range_with_len}
use Rattle.std.proofs.lemmas.Int.{ints}
use Rattle.std.proofs.lemmas.List.{take_more, get_or_append_left, get_or-append-add}
use Rattle.std.proofs.lemmas.List.FromFn.{fill_by_all, length-map-range_with_len, get_or-map-range_with_len}
use Rattle.std.proofs.lemmas.List.Concat.{flat_map-append}
use Rattle.std.proofs.lemmas.Option.{get_or_from_slice_get, slice_get_within}
use Rattle.spec_play.specs.Mixes.{MixedElement, Rendition, codec_of}
use Rattle.spec_play.specs.Waves.{wave_shape}
use Rattle.spec_play.specs.GainsOverTime.{gain_at}
use Rattle.spec_play.specs.FixedMix.{gained, fixed_channel, fixed_sum, fixed_mix}
use Rattle.spec_play.specs.Exact.{Place, tick_of}
use Rattle.spec_play.specs.Playing.{places_at, fixed_bytes, unit_bytes}
use Rattle.iamf_mixing.specs.Bytes.{mixed_bytes}
use Rattle.iamf_play.specs.Mixing.{mixed_at, mixed_from, kept_of, first_of, place}

-- ---- the sum over the elements, from the first on

abbrev pub part_of : Rendition → Place → MixedElement → ℤ
part_of r p m = gained (fixed_channel r p m.element) (gain_at r m.gain (tick_of r p))

sum_push : (r : Rendition) (p : Place) (ms : List MixedElement) (m : MixedElement) → fixed_sum r p (ms ++ m ∷ []) ≡ fixed_sum r p ms +ℤ part_of r p m
sum_push r p [] m = omega (arith, ints)
sum_push r p (x ∷ ms) m = let rest = sum_push r p ms m in omega (arith, ints)

pub sum_more : (r : Rendition) (p : Place) (i : ℕ) (m : MixedElement) → slice_get r.elements i ≡ Some m → fixed_sum r p (take (i + 1) r.elements) ≡ fixed_sum r p (take i r.elements) +ℤ part_of r p m
sum_more r p i m there =
    ap (fixed_sum r p) (take_more r.elements i m (slice_get_within r.elements i m there))
    ∙ ap (λ (x : MixedElement). fixed_sum r p (take i r.elements ++ x ∷ [])) (get_or_from_slice_get r.elements i m m there)
    ∙ sum_push r p (take i r.elements) m

all_taken : {X : Type 0} (xs : List X) (i : ℕ) → length xs ≤ i → take i xs ≡ xs
all_taken [] zero h = refl
all_taken [] (suc i) h = refl
all_taken (x ∷ xs) zero h = absurd (omega arith)
all_taken (x ∷ xs) (suc i) h = ap (λ ys. x ∷ ys) (all_taken xs i (omega arith))

pub sum_all : (r : Rendition) (p : Place) (i : ℕ) → length r.elements ≤ i → fixed_sum r p (take i r.elements) ≡ fixed_sum r p r.elements
sum_all r p i h = ap (fixed_sum r p) (all_taken r.elements i h)

pub mix_is : (r : Rendition) (p : Place) → fixed_mix r p ≡ gained (fixed_sum r p r.elements) (gain_at r r.output (tick_of r p))
unfolding fixed_mix
mix_is r p = refl

-- ---- one tick

map-map : {A B C : Type 0} (f : B → C) (g : A → B) (xs : List A) → map f (map g xs) ≡ map (λ x. f (g x)) xs
map-map f g [] = refl
map-map f g (x ∷ xs) = ap (λ ys. f (g x) ∷ ys) (map-map f g xs)

pub tick_is : (r : Rendition) (u n : ℕ) → mixed_at r u n ≡ map (λ c. fixed_mix r (place u n c)) (range_with_len 0 (wave_shape r).channels)
tick_is r u n = map-map (fixed_mix r) (λ c. place u n c) (range_with_len 0 (wave_shape r).channels)

pub tick_filled : (r : Rendition) (u n : ℕ) (sums : List ℤ) → length sums ≡ (wave_shape r).channels → ((c : ℕ) → c < length sums → get_or sums c (pos 0) ≡ fixed_mix r (place u n c)) → sums ≡ mixed_at r u n
tick_filled r u n sums long all =
    fill_by_all (λ c. fixed_mix r (place u n c)) sums (wave_shape r).channels (pos 0) long (λ c h. all c (omega (arith, long))) ∙ sym (tick_is r u n)

tick_long : (r : Rendition) (u n : ℕ) → length (mixed_at r u n) ≡ (wave_shape r).channels
tick_long r u n = ap length (tick_is r u n) ∙ length-map-range_with_len (λ c. fixed_mix r (place u n c)) 0 (wave_shape r).channels

tick_at : (r : Rendition) (u n c : ℕ) → c < (wave_shape r).channels → get_or (mixed_at r u n) c (pos 0) ≡ fixed_mix r (place u n c)
tick_at r u n c h =
    ap (λ (xs : List ℤ). get_or xs c (pos 0)) (tick_is r u n)
    ∙ get_or-map-range_with_len (λ c. fixed_mix r (place u n c)) 0 (wave_shape r).channels c c (pos 0) h (omega arith)

-- ---- some ticks

range_more : (a n : ℕ) → range_with_len a (suc n) ≡ range_with_len a n ++ (a + n) ∷ []
range_more a zero = ap (λ (x : ℕ). x ∷ []) (let e : a ≡ a + 0 = omega arith in e)
range_more a (suc n) =
    ap (λ xs. a ∷ xs) (range_more (a + 1) n ∙ ap (λ (x : ℕ). range_with_len (a + 1) n ++ x ∷ []) (let e : a + 1 + n ≡ a + suc n = omega arith in e))

pub ticks_more : (r : Rendition) (u first k : ℕ) → mixed_from r u first (k + 1) ≡ mixed_from r u first k ++ mixed_at r u (first + k)
ticks_more r u first k =
    ap (λ (n : ℕ). mixed_from r u first n) (add-one k)
    ∙ ap (flat_map (mixed_at r u)) (range_more first k)
    ∙ flat_map-append (mixed_at r u) (range_with_len first k) ((first + k) ∷ [])
    ∙ ap (λ xs. mixed_from r u first k ++ xs) (append-nil (mixed_at r u (first + k)))

pub ticks_long : (r : Rendition) (u first count : ℕ) → length (mixed_from r u first count) ≡ count * (wave_shape r).channels
ticks_long r u first zero = omega arith
ticks_long r u first (suc k) =
    omega (arith, length-append (mixed_at r u first) (mixed_from r u (first + 1) k), tick_long r u first, ticks_long r u (first + 1) k)

pub tick_among : (r : Rendition) (u first count n c : ℕ) → n < count → c < (wave_shape r).channels
    → get_or (mixed_from r u first count) (n * (wave_shape r).channels + c) (pos 0) ≡ fixed_mix r (place u (first + n) c)
tick_among r u first zero n c h k = absurd (omega arith)
tick_among r u first (suc count) zero c h k =
    let long = tick_long r u first in
    let inside : c < length (mixed_at r u first) = omega (arith, long) in
    let here : 0 * (wave_shape r).channels + c ≡ c = omega arith in
    let same : first ≡ first + 0 = omega arith in
    ap (λ (i : ℕ). get_or (mixed_at r u first ++ mixed_from r u (first + 1) count) i (pos 0)) here
    ∙ get_or_append_left (mixed_at r u first) (mixed_from r u (first + 1) count) (pos 0) c inside
    ∙ tick_at r u first c k
    ∙ ap (λ (m : ℕ). fixed_mix r (place u m c)) same
tick_among r u first (suc count) (suc n) c h k =
    let long = tick_long r u first in
    let there : suc n * (wave_shape r).channels + c ≡ length (mixed_at r u first) + (n * (wave_shape r).channels + c) = omega (arith, long) in
    let same : first + 1 + n ≡ first + suc n = omega arith in
    ap (λ (i : ℕ). get_or (mixed_at r u first ++ mixed_from r u (first + 1) count) i (pos 0)) there
    ∙ get_or-append-add (mixed_at r u first) (mixed_from r u (first + 1) count) (n * (wave_shape r).channels + c) (pos 0)
    ∙ tick_among r u (first + 1) count n c (omega arith) k
    ∙ ap (λ (m : ℕ). fixed_mix r (place u m c)) same

-- ---- bytes

flat_map-map : {A B C : Type 0} (g : B → List C) (f : A → B) (xs : List A) → flat_map g (map f xs) ≡ flat_map (λ x. g (f x)) xs
flat_map-map g f [] = refl
flat_map-map g f (x ∷ xs) = ap (λ ys. g (f x) ++ ys) (flat_map-map g f xs)

flat_map-flat_map : {A B C : Type 0} (g : B → List C) (f : A → List B) (xs : List A) → flat_map g (flat_map f xs) ≡ flat_map (λ x. flat_map g (f x)) xs
flat_map-flat_map g f [] = refl
flat_map-flat_map g f (x ∷ xs) = flat_map-append g (f x) (flat_map f xs) ∙ ap (λ ys. flat_map g (f x) ++ ys) (flat_map-flat_map g f xs)

same_each : {A C : Type 0} (f g : A → List C) (xs : List A) → ((x : A) → f x ≡ g x) → flat_map f xs ≡ flat_map g xs
same_each f g [] e = refl
same_each f g (x ∷ xs) e = ap (λ ys. ys ++ flat_map f xs) (e x) ∙ ap (λ ys. g x ++ ys) (same_each f g xs e)

pub bytes_are : (r : Rendition) (u : ℕ) → flat_map (mixed_bytes (codec_of r).depth) (mixed_from r u (first_of r u) (kept_of r u)) ≡ unit_bytes r u
unfolding unit_bytes
bytes_are r u =
    let ks = range_with_len (first_of r u) (kept_of r u) in
    flat_map-flat_map (mixed_bytes (codec_of r).depth) (mixed_at r u) ks
    ∙ same_each (λ n. flat_map (mixed_bytes (codec_of r).depth) (mixed_at r u n)) (λ n. flat_map (fixed_bytes r) (places_at r u n)) ks (λ n. flat_map-map (mixed_bytes (codec_of r).depth) (fixed_mix r) (places_at r u n))
    ∙ sym (flat_map-flat_map (fixed_bytes r) (places_at r u) ks)
