-- Laws of frames of linear PCM.
use Rattle.std.proofs.Common.{◌≡◌, ℕ, ◌+◌, ◌-◌, ◌*◌, ◌/◌, ◌%◌, ◌^◌, ◌<◌, ◌≤◌, ◌⊎◌, Bool, true, false, not, IsTrue, List, length, take, drop, reverse, refl, sym, ap, subst, ◌∙◌, arith, inl, inr}
use Rattle.std.proofs.lemmas.Bool.{cases_lt}
use Rattle.std.proofs.lemmas.Bool.Decides.{nat_tests}
use Rattle.std.proofs.lemmas.List.{length-drop, length-take-le, length-reverse, reverse-reverse}
use Rattle.std.proofs.lemmas.Nat.{mul-add-lt, row_fits, div_below, mod_below, div-add-mod', div-mul-add, same_from_place}
use Rattle.spec_bits.specs.Bits.{number_of, all_bits, signed_of, FitsSigned}
use Rattle.spec_bits.proofs.BitsLaws.{number_of-bound, length-all_bits}
use Rattle.spec_bits.proofs.CanonLaws.{signed_fit}
use Rattle.spec_samples.specs.Lpcm.{frame_bytes, is_depth, sample_place, signed_number, sample}
use Rattle.spec_samples.specs.Laws.{IsByteOf, SamplesTile}

-- ---- depths are whole bytes

record IsWhole (depth : ℕ) : Type 0 where
  some : 0 < depth / 8
  exact : 8 * (depth / 8) ≡ depth
  many : (x : ℕ) → x * depth / 8 ≡ x * (depth / 8)

depth_cases : (depth : ℕ) → IsTrue (is_depth depth) → (depth ≡ 16) ⊎ ((depth ≡ 24) ⊎ (depth ≡ 32))
depth_cases depth is = grind (arith, nat_tests)

is_whole : (depth : ℕ) → IsTrue (is_depth depth) → IsWhole depth
is_whole depth is = elim (depth_cases depth is) [
  | inl e ↦ subst IsWhole (sym e) (record { some = omega arith; exact = refl; many = λ x. omega arith })
  | inr r ↦ elim r [
    | inl e ↦ subst IsWhole (sym e) (record { some = omega arith; exact = refl; many = λ x. omega arith })
    | inr e ↦ subst IsWhole (sym e) (record { some = omega arith; exact = refl; many = λ x. omega arith })
  ]
]

-- ---- samples tile

-- the sample among all samples of the frame whose bytes hold this one
the_sample : (channels depth n c place : ℕ) → 0 < depth / 8 → IsByteOf channels depth n c place → place / (depth / 8) ≡ n * channels + c
the_sample channels depth n c place some is =
    let after : place - sample_place channels depth n c < depth / 8 = omega arith in
    let whole : place ≡ sample_place channels depth n c + (place - sample_place channels depth n c) = omega arith in
    ap (λ (p : ℕ). p / (depth / 8)) whole ∙ div-mul-add (n * channels + c) (depth / 8) (place - sample_place channels depth n c) after

below_frame : (frame_length channels n c : ℕ) → n < frame_length → c < channels → n * channels + c < frame_length * channels
below_frame frame_length channels n c p q = omega (arith, mul-add-lt n channels c frame_length p q)

-- the sample of a place
sample_at : (frame_length channels depth place : ℕ) → 0 < depth / 8 → place / (depth / 8) < frame_length * channels
    → (n : ℕ) × (c : ℕ) × (n < frame_length) × (c < channels) × IsByteOf channels depth n c place
sample_at frame_length channels depth place some below = elim (cases_lt 0 channels) [
  | inl many ↦
      let among = place / (depth / 8) in
      let begin : sample_place channels depth (among / channels) (among % channels) ≡ among * (depth / 8) = ap (λ (k : ℕ). k * (depth / 8)) (div-add-mod' among channels) in
      let after : place % (depth / 8) < depth / 8 = mod_below place (depth / 8) some in
      (among / channels, among % channels, div_below among channels frame_length many below, mod_below among channels many, (omega (arith, div-add-mod' place (depth / 8)), omega (arith, div-add-mod' place (depth / 8))))
  | inr none ↦
      let none_there : channels ≡ 0 = omega arith in
      absurd (omega (arith, rw none_there at below))
]

pub tile : (frame_length channels depth : ℕ) → IsTrue (is_depth depth) → SamplesTile frame_length channels depth
tile frame_length channels depth is = record {
  within = λ n c p q. rw size (row_fits (n * channels + c) (depth / 8) (frame_length * channels) (depth / 8) (below_frame frame_length channels n c p q) (omega arith));
  covered = λ place p. sample_at frame_length channels depth place whole.some (div_below place (depth / 8) (frame_length * channels) whole.some (rw size at p));
  apart = λ place n c n' c' p q here there. same_from_place n c n' c' channels p q (sym (the_sample channels depth n c place whole.some here) ∙ the_sample channels depth n' c' place whole.some there);
}
  where
    whole : IsWhole depth
    whole = is_whole depth is

    size : frame_bytes frame_length channels depth ≡ frame_length * channels * (depth / 8)
    size = whole.many (frame_length * channels)

-- ---- a sample fits its depth

number_fits : (k : ℕ) (little : Bool) (bytes : List ℕ) → 8 * length bytes ≡ k → FitsSigned k (signed_number little k bytes)
unfolding signed_number
number_fits k true bytes e =
    let len : length (all_bits (reverse bytes)) ≡ k = length-all_bits (reverse bytes) ∙ ap (λ (m : ℕ). 8 * m) (length-reverse bytes) ∙ e in
    signed_fit k (number_of (all_bits (reverse bytes))) (subst (λ (m : ℕ). number_of (all_bits (reverse bytes)) < 2 ^ m) len (number_of-bound (all_bits (reverse bytes))))
number_fits k false bytes e =
    let len : length (all_bits bytes) ≡ k = length-all_bits bytes ∙ e in
    signed_fit k (number_of (all_bits bytes)) (subst (λ (m : ℕ). number_of (all_bits bytes) < 2 ^ m) len (number_of-bound (all_bits bytes)))

pub fit : (frame : List ℕ) (little : Bool) (depth channels n c : ℕ) → IsTrue (is_depth depth) → sample_place channels depth n c + depth / 8 ≤ length frame
    → FitsSigned depth (sample frame little depth channels n c)
unfolding sample
fit frame little depth channels n c is le =
    let whole : IsWhole depth = is_whole depth is in
    let rest : depth / 8 ≤ length (drop (sample_place channels depth n c) frame) = omega (arith, length-drop (sample_place channels depth n c) frame) in
    let count : length (take (depth / 8) (drop (sample_place channels depth n c) frame)) ≡ depth / 8 = length-take-le (depth / 8) (drop (sample_place channels depth n c) frame) rest in
    number_fits depth little (take (depth / 8) (drop (sample_place channels depth n c) frame)) (ap (λ (m : ℕ). 8 * m) count ∙ whole.exact)

-- ---- both byte orders

pub mirror : (little : Bool) (depth : ℕ) (bytes : List ℕ) → signed_number little depth bytes ≡ signed_number (not little) depth (reverse bytes)
unfolding signed_number
mirror true depth bytes = refl
mirror false depth bytes = ap (λ (b : List ℕ). signed_of depth (number_of (all_bits b))) (sym (reverse-reverse bytes))
