-- The WAV file of the fixed-point mix plays the mix.
use Rattle.std.proofs.Common.{arith, ◌≡◌, ◌<◌, ◌+◌, ◌^◌, ℕ, zero, suc, ℤ, pos, ◌+ℤ◌, ◌*ℤ◌, ◌≤ℤ◌, refl, sym, ap, ◌∙◌, List, [], ◌∷◌, ◌++◌, map, length, replicate}
use Rattle.std.specs.List.{AllZip, flat_map, range_with_len}
use Rattle.std.proofs.lemmas.Int.{ints}
use Rattle.std.proofs.lemmas.Grind.{flat_map-append}
use Rattle.spec_demix.specs.ExactWalk.{Quotient}
use Rattle.spec_demix.specs.Rounding.{rounded}
use Rattle.spec_demix.proofs.FloorLemmas.{floor-low, floor-high, distribute, mul-ordered, swapped}
use Rattle.spec_waves.specs.Wave.{sample_bytes, header_bytes, pad, wave}
use Rattle.spec_play.specs.Mixes.{Rendition, codec_of, unit_length, unit_of}
use Rattle.spec_play.specs.Waves.{wave_shape}
use Rattle.spec_play.specs.Exact.{Place}
use Rattle.spec_play.specs.FixedMix.{fixed_mix, fixed_sample}
use Rattle.spec_sequence.specs.Parts.{first_trim}
use Rattle.spec_play.specs.Playing.{kept_samples, places_at, unit_places, places, IsNear, IsPlayed, fixed_bytes, unit_bytes, fixed_wave}
use Rattle.spec_play.specs.Laws.{IsPlayable, IsPlace, FixedWavePlays}
use Rattle.spec_play.proofs.Tests.{Each, each_flat_map, each_map}
use Rattle.spec_play.proofs.MixIsNear.{IsAbout}
use Rattle.spec_play.proofs.PlayableMixes.{fixed_about, some_exact}

-- ---- rounding

rounded_near : (z : ℤ) (q : Quotient) → IsAbout 2841392 z q → IsNear (rounded z) q
rounded_near z q about =
    let r = rounded z in
    let b = q.bottom in
    let low : (r *ℤ pos (2 ^ 28)) ≤ℤ (z +ℤ pos (2 ^ 27)) = floor-low (z +ℤ pos (2 ^ 27)) (2 ^ 28) (omega arith) in
    let high : (z +ℤ pos (2 ^ 27)) ≤ℤ (r *ℤ pos (2 ^ 28) +ℤ pos (2 ^ 28)) = let h = floor-high (z +ℤ pos (2 ^ 27)) (2 ^ 28) (omega arith) in omega (arith, ints) in
    let below = mul-ordered (r *ℤ pos (2 ^ 28)) (z +ℤ pos (2 ^ 27)) b low in
    let above = mul-ordered (z +ℤ pos (2 ^ 27)) (r *ℤ pos (2 ^ 28) +ℤ pos (2 ^ 28)) b high in
    let d = distribute z (pos (2 ^ 27)) (pos b) in
    let e = distribute (r *ℤ pos (2 ^ 28)) (pos (2 ^ 28)) (pos b) in
    let s = swapped r (2 ^ 28) b in
    let near = about.near in
    omega (arith, ints)

is_played : (r : Rendition) (place : Place) → IsPlayable r → IsPlace r place → IsPlayed r place (fixed_sample r place)
is_played r place p there =
    let exact = some_exact r place p there in
    record {
      exact = exact.0;
      whole = rounded (fixed_mix r place);
      exact_is = exact.1;
      near = rounded_near (fixed_mix r place) exact.0 (fixed_about r place exact.0 p there exact.1);
      clipped_is = refl;
    }

all_played : (r : Rendition) → IsPlayable r → (ps : List Place) → Each (IsPlace r) ps → AllZip (IsPlayed r) ps (map (fixed_sample r) ps)
all_played r p [] there = tt
all_played r p (place ∷ ps) there = (is_played r place p there.0, all_played r p ps there.1)

-- ---- places

each_in_range : (P : ℕ → Type 0) (n a : ℕ) → ((k : ℕ) → k < a + n → P k) → Each P (range_with_len a n)
each_in_range P zero a all = tt
each_in_range P (suc n) a all = (all a (omega arith), each_in_range P n (a + 1) (λ k h. all k (omega arith)))

each_below : (P : ℕ → Type 0) (n : ℕ) → ((k : ℕ) → k < n → P k) → Each P (range_with_len 0 n)
each_below P n all = each_in_range P n 0 (λ k h. all k (omega arith))

each_of : {A : Type 0} (P : A → Type 0) → ((x : A) → P x) → (xs : List A) → Each P xs
each_of P all [] = tt
each_of P all (x ∷ xs) = (all x, each_of P all xs)

unit_places_are : (r : Rendition) (u : ℕ) → u < length r.units → Each (IsPlace r) (unit_places r u)
unit_places_are r u h =
    let at : (n : ℕ) → Each (IsPlace r) (places_at r u n) = λ n. each_map (IsPlace r) (λ c. record { unit = u; sample = n; channel = c }) (range_with_len 0 (wave_shape r).channels) (each_below (λ c. IsPlace r (record { unit = u; sample = n; channel = c })) (wave_shape r).channels (λ c low. record { in_unit = h; in_wave = low })) in
    let kept = kept_samples (unit_length r) (first_trim (unit_of r u).frames) in
    each_flat_map (IsPlace r) (places_at r u) kept (each_of (λ n. Each (IsPlace r) (places_at r u n)) at kept)

places_are : (r : Rendition) → Each (IsPlace r) (places r)
places_are r =
    each_flat_map (IsPlace r) (unit_places r) (range_with_len 0 (length r.units)) (each_below (λ u. Each (IsPlace r) (unit_places r u)) (length r.units) (λ u h. unit_places_are r u h))

-- ---- bytes

flat_map-map : {A B C : Type 0} (g : B → List C) (f : A → B) (xs : List A) → flat_map g (map f xs) ≡ flat_map (λ x. g (f x)) xs
flat_map-map g f [] = refl
flat_map-map g f (x ∷ xs) = ap (λ ys. g (f x) ++ ys) (flat_map-map g f xs)

flat_map-flat_map : {A B C : Type 0} (g : B → List C) (f : A → List B) (xs : List A) → flat_map g (flat_map f xs) ≡ flat_map (λ x. flat_map g (f x)) xs
flat_map-flat_map g f [] = refl
flat_map-flat_map g f (x ∷ xs) = flat_map-append g (f x) (flat_map f xs) ∙ ap (λ ys. flat_map g (f x) ++ ys) (flat_map-flat_map g f xs)

bytes_of_units : (r : Rendition) → flat_map (unit_bytes r) (range_with_len 0 (length r.units)) ≡ flat_map (λ (z : ℤ). sample_bytes (codec_of r).depth z) (map (fixed_sample r) (places r))
unfolding unit_bytes
bytes_of_units r =
    sym (flat_map-map (λ (z : ℤ). sample_bytes (codec_of r).depth z) (fixed_sample r) (places r) ∙ flat_map-flat_map (fixed_bytes r) (unit_places r) (range_with_len 0 (length r.units)))

wave_is : (r : Rendition) → fixed_wave r ≡ wave (wave_shape r) (map (fixed_sample r) (places r))
unfolding wave
wave_is r = ap (λ ys. header_bytes (wave_shape r) ++ (ys ++ replicate (pad (wave_shape r)) 0)) (bytes_of_units r)

pub fixed_wave_plays : FixedWavePlays
fixed_wave_plays r p = record {
  samples = map (fixed_sample r) (places r);
  played = all_played r p (places r) (places_are r);
  bytes_are = wave_is r;
}
