-- The ids of the elements that a mix names.
use Rattle.std.proofs.Common.{◌≡◌, ℕ, List, [], ◌∷◌, ◌++◌, map, refl, ap, ◌∙◌}
use Rattle.std.specs.List.{flat_map}
use Rattle.obu_mix_elements.specs.declared.mix_element.MixElement.{MixElement}
use Rattle.obu_mix.specs.declared.sub_mix.SubMix.{SubMix}
use Rattle.obu_mix_elements.specs.MixElementView.{view_mix_element}
use Rattle.obu_mix.specs.SubMixView.{view_sub_mix}

ids_viewed : (es : List MixElement) → map (λ e. e.element) es ≡ map (λ e. e.audio_element_id) (map view_mix_element es)
ids_viewed [] = refl
ids_viewed (e ∷ es) = ap (λ (ids : List ℕ). e.element ∷ ids) (ids_viewed es)

pub named_viewed : (ss : List SubMix) → flat_map (λ s. map (λ e. e.element) s.elements.items) ss ≡ flat_map (λ s. map (λ e. e.audio_element_id) s.elements) (map view_sub_mix ss)
named_viewed [] = refl
named_viewed (s ∷ ss) =
    ap (λ (ids : List ℕ). ids ++ flat_map (λ s. map (λ e. e.element) s.elements.items) ss) (ids_viewed s.elements.items)
    ∙ ap (λ (ids : List ℕ). map (λ e. e.audio_element_id) (map view_mix_element s.elements.items) ++ ids) (named_viewed ss)
