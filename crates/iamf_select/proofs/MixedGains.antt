-- Whether some gain of a mix passes a test: that of an element, or that of the output.
use Rattle.std.proofs.Common.{◌≡◌, refl, sym, ◌∙◌, Bool, true, false, ◌||◌, List, [], ◌∷◌, ◌++◌, map}
use Rattle.std.specs.List.{list_any}
use Rattle.spec_descriptors.specs.MixGain.{MixGainFields}
use Rattle.spec_play.specs.Mixes.{MixedElement}

pub gains_pass : (test : MixGainFields → Bool) (elements : List MixedElement) (output : MixGainFields)
    → list_any test (map (λ (m : MixedElement). m.gain) elements ++ output ∷ []) ≡ (list_any (λ (m : MixedElement). test m.gain) elements || test output)
gains_pass test [] output = elim (test output) as (λ b. (b || false) ≡ b) [ true ↦ refl | false ↦ refl ]
gains_pass test (m ∷ ms) output =
    elim (test m.gain) as (λ b. (b || list_any test (map (λ (m : MixedElement). m.gain) ms ++ output ∷ [])) ≡ ((b || list_any (λ (m : MixedElement). test m.gain) ms) || test output))
    [ true ↦ refl | false ↦ gains_pass test ms output ]

-- an element's gain passes
pub element_decides : (test : MixGainFields → Bool) (elements : List MixedElement) (output : MixGainFields) {a : Bool} → a ≡ list_any (λ (m : MixedElement). test m.gain) elements → a ≡ true
    → a ≡ list_any test (map (λ (m : MixedElement). m.gain) elements ++ output ∷ [])
element_decides test elements output is passes =
    let some : list_any (λ (m : MixedElement). test m.gain) elements ≡ true = sym is ∙ passes in
    let whole : list_any test (map (λ (m : MixedElement). m.gain) elements ++ output ∷ []) ≡ true = gains_pass test elements output ∙ rw some refl in
    passes ∙ sym whole

-- no element's gain passes
pub output_decides : (test : MixGainFields → Bool) (elements : List MixedElement) (output : MixGainFields) {a b : Bool} → a ≡ list_any (λ (m : MixedElement). test m.gain) elements → a ≡ false → b ≡ test output
    → b ≡ list_any test (map (λ (m : MixedElement). m.gain) elements ++ output ∷ [])
output_decides test elements output is fails last =
    let none : list_any (λ (m : MixedElement). test m.gain) elements ≡ false = sym is ∙ fails in
    let whole : list_any test (map (λ (m : MixedElement). m.gain) elements ++ output ∷ []) ≡ test output = gains_pass test elements output ∙ rw none refl in
    last ∙ sym whole
