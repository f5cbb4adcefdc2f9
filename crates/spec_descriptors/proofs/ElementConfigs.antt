-- The configuration of an audio element is of one of three kinds, each with its own syntax.
use Rattle.std.proofs.Common.{◌≡◌, ℕ, List, [], length, subst}
use Rattle.std.proofs.lemmas.Bool.{eqb-true, not-false}
use Rattle.spec_syntax.specs.Syntax.{each}
use Rattle.spec_syntax.specs.Payload.{FieldValue}
use Rattle.spec_syntax.proofs.Fields.{Has, field_step, end_step, choice_step, check_step, bind_step}
use Rattle.spec_descriptors.specs.Layers.{LayerFields, scalable_config}
use Rattle.spec_descriptors.specs.Layers as layers
use Rattle.spec_descriptors.specs.Ambisonics.{AmbisonicsFields, ambisonics_config}
use Rattle.spec_descriptors.specs.Ambisonics as ambisonics
use Rattle.spec_descriptors.specs.AudioElement.{ConfigFields, Scalable, Ambisonics, Other, AudioElementFields, element_front, parameter_in, scalable_of, ambisonics_of, other_config, config_of, audio_element}

-- P holds of each kind where an element has so many substreams
pub record OfKinds (P : ℕ → ConfigFields → Type 0) : Type 0 where
  pub scalable : (count : ℕ) (xs : List FieldValue) (list : List LayerFields) → Has scalable_config xs list → count ≡ layers.substreams_of list → P count (Scalable list)
  pub scene : (count : ℕ) (xs : List FieldValue) (config : AmbisonicsFields) → Has ambisonics_config xs config → count ≡ ambisonics.substreams_of config → P count (Ambisonics config)
  pub other : (count type : ℕ) (bytes : List ℕ) → P count (Other type bytes)

config_holds : (P : ℕ → ConfigFields → Type 0) (type count : ℕ) (xs : List FieldValue) (r : ConfigFields) → OfKinds P → Has (config_of type count) xs r → P count r
unfolding scalable_of ambisonics_of other_config
config_holds P type count xs r kinds h =
    choice_step h
    (λ zero h1.
    bind_step scalable_config _ h1 λ front ys list e first h2.
    check_step h2 λ passed h3.
    end_step h3 λ e1 is.
    subst (P count) is (kinds.scalable count front list first (eqb-true _ _ (not-false _ passed))))
    (λ not_zero h1.
    choice_step h1
    (λ one h2.
    bind_step ambisonics_config _ h2 λ front ys config e first h3.
    check_step h3 λ passed h4.
    end_step h4 λ e1 is.
    subst (P count) is (kinds.scene count front config first (eqb-true _ _ (not-false _ passed))))
    (λ other h2.
    field_step h2 λ size ys e f p h3.
    field_step h3 λ bytes ys1 e1 f1 p1 h4.
    end_step h4 λ e2 is.
    subst (P count) is (kinds.other count type bytes)))

pub element_holds : (P : ℕ → ConfigFields → Type 0) (frame_length : ℕ) (xs : List FieldValue) (r : AudioElementFields) → OfKinds P → Has (audio_element frame_length) xs r
    → P (length r.audio_substream_ids) r.config
unfolding audio_element
element_holds P frame_length xs r kinds h =
    bind_step element_front _ h λ front_xs ys front e first h1.
    field_step h1 λ count ys1 e1 f1 p1 h2.
    bind_step (each count (parameter_in frame_length front.audio_element_type) []) _ h2 λ parameters_xs ys2 parameters e2 second h3.
    bind_step (config_of front.audio_element_type (length front.audio_substream_ids)) _ h3 λ config_xs ys3 config e3 third h4.
    end_step h4 λ e4 is.
    subst (λ (y : AudioElementFields). P (length y.audio_substream_ids) y.config) is (config_holds P front.audio_element_type (length front.audio_substream_ids) config_xs config kinds third)
