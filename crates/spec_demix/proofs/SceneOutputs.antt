-- The outputs of an ambisonics element are 1 to 225.
use Rattle.std.proofs.Common.{arith, ◌≡◌, ◌≤◌, ◌*◌, ℕ, refl, true, false, Bool, ◌||◌, List, [], ◌∷◌, subst, lit≤}
use Rattle.std.specs.Prelude.{◌==◌}
use Rattle.std.specs.List.{list_any}
use Rattle.std.proofs.lemmas.Bool.{not-false}
use Rattle.std.proofs.lemmas.Bool.Decides.{nat_tests}
use Rattle.spec_syntax.specs.Syntax.{each}
use Rattle.spec_syntax.specs.Payload.{FieldValue, IsValid, canon}
use Rattle.spec_syntax.proofs.Fields.{Has, field_step, end_step, choice_step, bind_step}
use Rattle.spec_descriptors.specs.Ambisonics.{AmbisonicsFields, is_output_count, mapping_in, ambisonics_mono, ambisonics_projection, ambisonics_config}
use Rattle.spec_descriptors.specs.AudioElement.{ConfigFields, Ambisonics, AudioElementFields, audio_element}
use Rattle.spec_descriptors.specs.ElementFields.{audio_element_fields}
use Rattle.spec_descriptors.proofs.OnEach.{Each}
use Rattle.spec_descriptors.proofs.ElementConfigs.{OfKinds, element_holds}
use Rattle.spec_demix.specs.Scenes.{outputs_of}

abbrev pub IsCount : ℕ → Type 0
IsCount n = (1 ≤ n) × (n ≤ 225)

one_of : (n k : ℕ) (b rest : Bool) → (n == k * k) ≡ b → IsCount (k * k) → (b || rest) ≡ true → (rest ≡ true → IsCount n) → IsCount n
one_of n k true rest is all e more = let same : n ≡ k * k = grind (arith, nat_tests) in let low = all.0 in let high = all.1 in (omega arith, omega arith)
one_of n k false rest is all e more = more e

among : (n : ℕ) (ks : List ℕ) → Each (λ k. IsCount (k * k)) ks → list_any (λ k. n == k * k) ks ≡ true → IsCount n
among n [] all e = absurd (cc)
among n (k ∷ ks) all e = one_of n k (n == k * k) (list_any (λ j. n == j * j) ks) refl all.0 e (among n ks all.1)

counted : (n : ℕ) → is_output_count n ≡ true → IsCount n
unfolding is_output_count
counted n e =
    let square : (k : ℕ) → 1 ≤ k * k → k * k ≤ 225 → IsCount (k * k) = λ k low high. (low, high) in
    among n (1 ∷ 2 ∷ 3 ∷ 4 ∷ 5 ∷ 6 ∷ 7 ∷ 8 ∷ 9 ∷ 10 ∷ 11 ∷ 12 ∷ 13 ∷ 14 ∷ 15 ∷ []) (
      square 1 (lit≤ tt) (lit≤ tt),
      (
        square 2 (lit≤ tt) (lit≤ tt),
        (
          square 3 (lit≤ tt) (lit≤ tt),
          (
            square 4 (lit≤ tt) (lit≤ tt),
            (
              square 5 (lit≤ tt) (lit≤ tt),
              (
                square 6 (lit≤ tt) (lit≤ tt),
                (
                  square 7 (lit≤ tt) (lit≤ tt),
                  (
                    square 8 (lit≤ tt) (lit≤ tt),
                    (square 9 (lit≤ tt) (lit≤ tt), (square 10 (lit≤ tt) (lit≤ tt), (square 11 (lit≤ tt) (lit≤ tt), (square 12 (lit≤ tt) (lit≤ tt), (square 13 (lit≤ tt) (lit≤ tt), (square 14 (lit≤ tt) (lit≤ tt), (square 15 (lit≤ tt) (lit≤ tt), tt))))))),
                  ),
                ),
              ),
            ),
          ),
        ),
      ),
    ) e

mono_outputs : (xs : List FieldValue) (r : AmbisonicsFields) → Has ambisonics_mono xs r → IsCount (outputs_of r)
unfolding ambisonics_mono
mono_outputs xs r h =
    field_step h λ outputs ys e f p h1.
    field_step h1 λ substreams ys1 e1 f1 p1 h2.
    bind_step (each outputs (mapping_in substreams) []) _ h2 λ front ys2 mapping e2 first h3.
    end_step h3 λ e3 is.
    subst (λ (y : AmbisonicsFields). IsCount (outputs_of y)) is (counted outputs (not-false (is_output_count outputs) p.0))

projection_outputs : (xs : List FieldValue) (r : AmbisonicsFields) → Has ambisonics_projection xs r → IsCount (outputs_of r)
unfolding ambisonics_projection
projection_outputs xs r h =
    field_step h λ outputs ys e f p h1.
    field_step h1 λ substreams ys1 e1 f1 p1 h2.
    field_step h2 λ coupled ys2 e2 f2 p2 h3.
    field_step h3 λ matrix ys3 e3 f3 p3 h4.
    end_step h4 λ e4 is.
    subst (λ (y : AmbisonicsFields). IsCount (outputs_of y)) is (counted outputs (not-false (is_output_count outputs) p.0))

scene_outputs : (xs : List FieldValue) (r : AmbisonicsFields) → Has ambisonics_config xs r → IsCount (outputs_of r)
unfolding ambisonics_config
scene_outputs xs r h = field_step h λ mode ys e f p h1. choice_step h1 (λ mono h2. mono_outputs ys r h2) (λ other h2. projection_outputs ys r h2)

abbrev pub HasCount : ConfigFields → Type 0
HasCount (Ambisonics config) = IsCount (outputs_of config)
HasCount _ = Unit {0}

abbrev HasOutputs : ℕ → ConfigFields → Type 0
HasOutputs count config = HasCount config

outputs_of_kinds : OfKinds HasOutputs
outputs_of_kinds = record {
  scalable = λ count xs list h is. tt;
  scene = λ count xs config h is. scene_outputs xs config h;
  other = λ count type bytes. tt;
}

pub outputs_of_valid : (frame_length : ℕ) (e : AudioElementFields) → IsValid (audio_element frame_length) audio_element_fields e → HasCount e.config
outputs_of_valid frame_length e valid =
    element_holds HasOutputs frame_length (audio_element_fields e) e outputs_of_kinds (record { before = []; bits = canon (audio_element_fields e); stands = valid })
