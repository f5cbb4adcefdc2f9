-- A mix of a sequence that the selection passes is played.
use Rattle.std.proofs.Common.{◌≡◌, ℕ, refl, List, [], ◌∷◌, Option, Some, None}
use Rattle.spec_descriptors.specs.MixPresentation.{SubMixFields, MixPresentationFields}
use Rattle.spec_values.specs.Value.{ObuValue}
use Rattle.spec_sequence.specs.Reading.{Reads}
use Rattle.spec_play.specs.declared.target.Target.{Target}
use Rattle.spec_play.specs.Mixes.{Rendition, rendition, rendition_of_sub_mixes, rendition_of_mix, rendition_of, mix_of}
use Rattle.spec_play.specs.Selection.{sub_mixes_fault, mix_fault, play_fault}
use Rattle.spec_play.specs.Laws.{IsHearable, IsPlayable, SelectedIsPlayable}
use Rattle.spec_play.proofs.LayerChains.{chains_of_mix}

of_sub_mixes : (bytes : List ℕ) (s : List ObuValue) (target : Target) (sub_mixes : List SubMixFields) → Reads bytes s → IsHearable target → sub_mixes_fault s target sub_mixes ≡ None
    → (r : Rendition) × (rendition_of_sub_mixes s target sub_mixes ≡ Some r) × IsPlayable r
of_sub_mixes bytes s target [] reads hearable e = absurd (cc)
of_sub_mixes bytes s target (sub_mix ∷ []) reads hearable e =
    (rendition s target sub_mix, refl, record { hearable = hearable; chains = chains_of_mix bytes s sub_mix.elements reads; selected = e })
of_sub_mixes bytes s target (sub_mix ∷ other ∷ sub_mixes) reads hearable e = absurd (cc)

of_mix : (bytes : List ℕ) (s : List ObuValue) (target : Target) (o : Option MixPresentationFields) → Reads bytes s → IsHearable target → mix_fault s target o ≡ None
    → (r : Rendition) × (rendition_of_mix s target o ≡ Some r) × IsPlayable r
of_mix bytes s target None reads hearable e = absurd (cc)
of_mix bytes s target (Some m) reads hearable e = of_sub_mixes bytes s target m.sub_mixes reads hearable e

pub selected_is_playable : SelectedIsPlayable
unfolding play_fault rendition_of
selected_is_playable bytes s mix target reads hearable e = of_mix bytes s target (mix_of s mix) reads hearable e
