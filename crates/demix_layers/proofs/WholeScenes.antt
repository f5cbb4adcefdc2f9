-- An ambisonics configuration that stands in a valid element is whole.
use Rattle.std.proofs.Common.{arith, ◌≡◌, ◌<◌, ℕ, List, [], ◌⊎◌, inl, inr, Bool, true, false, length, refl, subst, ◌∙◌}
use Rattle.std.specs.Prelude.{not, ◌||◌, ◌==◌, nat_lt}
use Rattle.std.proofs.lemmas.Bool.{eqb-true, ltb-true, ltb-false}
use Rattle.spec_syntax.specs.Syntax.{each}
use Rattle.spec_syntax.specs.Payload.{FieldValue, canon}
use Rattle.spec_syntax.proofs.Fields.{Has, field_step, end_step, choice_step, bind_step}
use Rattle.spec_descriptors.specs.Ambisonics.{AmbisonicsFields, mapping_in, ambisonics_mono, ambisonics_projection, ambisonics_config}
use Rattle.spec_descriptors.specs.AudioElement.{ConfigFields, Ambisonics}
use Rattle.spec_descriptors.specs.ElementFields.{audio_element_fields}
use Rattle.spec_descriptors.proofs.OnEach.{all_of}
use Rattle.spec_descriptors.proofs.ElementCounts.{each_all}
use Rattle.spec_descriptors.proofs.ElementConfigs.{OfKinds, element_holds}
use Rattle.spec_demix.specs.Scenes.{IsWhole}
use Rattle.demix_layers.specs.SceneLaws.{ValidAreWhole}

either : (a b : Bool) → not (a || b) ≡ false → (a ≡ true) ⊎ (b ≡ true)
either true b h = inl refl
either false true h = inr refl
either false false h = absurd (cc)

refers : (substreams m : ℕ) (before : List ℕ) (xs : List FieldValue) (n : ℕ) → Has (mapping_in substreams m before) xs n → (n ≡ 255) ⊎ (n < substreams)
refers substreams m before xs n h =
    field_step h λ v ys e f p h1.
    end_step h1 λ e1 is.
    subst (λ n. (n ≡ 255) ⊎ (n < substreams)) is
    (elim (either (v == 255) (nat_lt v substreams) p.0) as (λ _. (v ≡ 255) ⊎ (v < substreams)) [ inl e ↦ inl (eqb-true v 255 e) | inr l ↦ inr (ltb-true v substreams l) ])

config_whole : (xs : List FieldValue) (r : AmbisonicsFields) → Has ambisonics_config xs r → IsWhole r
unfolding ambisonics_config ambisonics_mono ambisonics_projection
config_whole xs r h =
    field_step h λ mode ys e f p h1.
    choice_step h1
    (λ mono h2.
    field_step h2 λ outputs ys1 e1 f1 p1 h3.
    field_step h3 λ substreams ys2 e2 f2 p2 h4.
    bind_step (each outputs (mapping_in substreams) []) _ h4 λ front ys3 mapping e3 first h5.
    end_step h5 λ e4 is.
    let refers_known : ℕ → Type 0 = λ n. (n ≡ 255) ⊎ (n < substreams) in
    let q = each_all (mapping_in substreams) refers_known (refers substreams) outputs [] front mapping tt first in
    subst IsWhole is (q.1 ∙ omega arith, all_of refers_known mapping q.0))
    (λ projection h2.
    field_step h2 λ outputs ys1 e1 f1 p1 h3.
    field_step h3 λ substreams ys2 e2 f2 p2 h4.
    field_step h4 λ coupled ys3 e3 f3 p3 h5.
    field_step h5 λ matrix ys4 e4 f4 p4 h6.
    end_step h6 λ e5 is.
    subst IsWhole is (f4.0, ltb-false substreams coupled p3.0))

abbrev SceneIsWhole : ℕ → ConfigFields → Type 0
SceneIsWhole count (Ambisonics config) = IsWhole config
SceneIsWhole count _ = Unit {0}

whole_of_kinds : OfKinds SceneIsWhole
whole_of_kinds = record {
  scalable = λ count xs list h is. tt;
  scene = λ count xs config h is. config_whole xs config h;
  other = λ count type bytes. tt;
}

pub valid_are_whole : ValidAreWhole
valid_are_whole frame_length element config valid has =
    subst (SceneIsWhole (length element.audio_substream_ids)) has
    (element_holds SceneIsWhole frame_length (audio_element_fields element) element whole_of_kinds (record { before = []; bits = canon (audio_element_fields element); stands = valid }))
