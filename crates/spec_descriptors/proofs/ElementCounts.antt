-- The counts of an audio element fit each other.
use Rattle.std.proofs.Common.{◌≡◌, ℕ, zero, suc, ◌+◌, ◌-◌, ◌<◌, ◌≤◌, List, [], ◌∷◌, ◌++◌, Some, length, refl, sym, subst, ◌∙◌, arith, length-append}
use Rattle.std.specs.Prelude.{sum, sum_by, replicate}
use Rattle.std.proofs.lemmas.Bool.{ltb-false}
use Rattle.std.proofs.lemmas.List.{length-replicate}
use Rattle.std.proofs.lemmas.List.Sums.{sum_by-append}
use Rattle.std.proofs.lemmas.List.Folds.{sum_by-replicate}
use Rattle.spec_syntax.specs.Syntax.{Syntax, each}
use Rattle.spec_syntax.specs.Payload.{FieldValue, IsValid, canon}
use Rattle.spec_syntax.proofs.Fields.{Has, field_step, end_step, choice_step, bind_step}
use Rattle.spec_descriptors.specs.Layers.{LayerFields, layer_in, scalable_config}
use Rattle.spec_descriptors.specs.Layers as layers
use Rattle.spec_descriptors.specs.Ambisonics.{AmbisonicsFields, Mono, Projection, mapping_in, ambisonics_mono, ambisonics_projection, ambisonics_config}
use Rattle.spec_descriptors.specs.Ambisonics as ambisonics
use Rattle.spec_descriptors.specs.AudioElement.{ConfigFields, Scalable, Ambisonics, Other, AudioElementFields, audio_element, coupled_first, layer_channels, substream_channels_of}
use Rattle.spec_descriptors.specs.ElementFields.{audio_element_fields}
use Rattle.spec_descriptors.proofs.OnEach.{Each, each_both}
use Rattle.spec_descriptors.proofs.ReadLayers.{layer_read}
use Rattle.spec_descriptors.proofs.ElementConfigs.{OfKinds, element_holds}

-- ---- repetitions

-- what holds of each part holds of the whole
pub each_all : {F B : Type 0} (part : ℕ → List B → Syntax F B) (P : B → Type 0) → ((m : ℕ) (bs : List B) (ys : List FieldValue) (b : B) → Has (part m bs) ys b → P b)
    → (n : ℕ) (before : List B) (xs : List FieldValue) (r : List B) → Each P before → Has (each n part before) xs r → Each P r × (length r ≡ length before + n)
unfolding each
each_all {B = B} part P holds zero before xs r all h =
    end_step h λ e is.
    subst (λ (y : List B). Each P y × (length y ≡ length before + 0)) is (all, omega arith)
each_all part P holds (suc n) before xs r all h =
    bind_step (part n before) _ h λ front others b e first rest.
    let t = each_all part P holds n (before ++ b ∷ []) others r (each_both P before (b ∷ []) all (holds n before front b first, tt)) rest in
    (t.0, t.1 ∙ omega (arith, length-append before (b ∷ [])))

-- ---- layers

-- no more substreams are coupled than there are
abbrev pub IsCoupled : LayerFields → Type 0
IsCoupled layer = layer.coupled_substream_count ≤ layer.substream_count

layer_counts : (after : ℕ) (before : List LayerFields) (xs : List FieldValue) (r : LayerFields) → Has (layer_in after before) xs r → IsCoupled r
layer_counts after before xs r h = let t = layer_read after before xs r h in omega (arith, t.substreams, t.coupled)

scalable_counts : (xs : List FieldValue) (r : List LayerFields) → Has scalable_config xs r → (length r < 8) × Each IsCoupled r
unfolding scalable_config
scalable_counts xs r h =
    field_step h λ count ys e f p h1.
    field_step h1 λ reserved ys1 e1 f1 p1 h2.
    let t = each_all layer_in IsCoupled layer_counts count [] ys1 r tt h2 in
    (omega (arith, f, t.1), t.0)

-- ---- ambisonics

abbrev pub AmbisonicsCounts : AmbisonicsFields → Type 0
AmbisonicsCounts (Mono outputs substreams mapping) = substreams < 256
AmbisonicsCounts (Projection outputs substreams coupled matrix) = coupled ≤ substreams

ambisonics_counts : (xs : List FieldValue) (r : AmbisonicsFields) → Has ambisonics_config xs r → AmbisonicsCounts r
unfolding ambisonics_config ambisonics_mono ambisonics_projection
ambisonics_counts xs r h =
    field_step h λ mode ys e f p h1.
    choice_step h1
    (λ mono h2.
    field_step h2 λ outputs ys1 e1 f1 p1 h3.
    field_step h3 λ substreams ys2 e2 f2 p2 h4.
    bind_step (each outputs (mapping_in substreams) []) _ h4 λ front ys3 mapping e3 first h5.
    end_step h5 λ e4 is.
    subst (λ (y : AmbisonicsFields). AmbisonicsCounts y) is f2)
    (λ projection h2.
    field_step h2 λ outputs ys1 e1 f1 p1 h3.
    field_step h3 λ substreams ys2 e2 f2 p2 h4.
    field_step h4 λ coupled ys3 e3 f3 p3 h5.
    field_step h5 λ matrix ys4 e4 f4 p4 h6.
    end_step h6 λ e5 is.
    subst (λ (y : AmbisonicsFields). AmbisonicsCounts y) is (ltb-false substreams coupled p3.0))

-- ---- the whole element

-- the configuration's counts are those of so many substreams
abbrev pub CountsHold : ℕ → ConfigFields → Type 0
CountsHold count (Scalable list) = (length list < 8) × Each IsCoupled list × (count ≡ layers.substreams_of list)
CountsHold count (Ambisonics config) = AmbisonicsCounts config × (count ≡ ambisonics.substreams_of config)
CountsHold count (Other type bytes) = Unit {0}

counts_of_kinds : OfKinds CountsHold
counts_of_kinds = record {
  scalable = λ count xs list h is. let t = scalable_counts xs list h in (t.0, t.1, is);
  scene = λ count xs config h is. (ambisonics_counts xs config h, is);
  other = λ count type bytes. tt;
}

pub valid_counts : (frame_length : ℕ) (r : AudioElementFields) → IsValid (audio_element frame_length) audio_element_fields r → CountsHold (length r.audio_substream_ids) r.config
valid_counts frame_length r valid = element_holds CountsHold frame_length (audio_element_fields r) r counts_of_kinds (record { before = []; bits = canon (audio_element_fields r); stands = valid })

-- ---- channels

pub sum-coupled_first : (substreams coupled : ℕ) → coupled ≤ substreams → sum (coupled_first substreams coupled) ≡ substreams + coupled
sum-coupled_first substreams coupled le =
    omega (arith, sum_by-append (λ (x : ℕ). x) (replicate coupled 2) (replicate (substreams - coupled) 1), sum_by-replicate (λ (x : ℕ). x) coupled 2, sum_by-replicate (λ (x : ℕ). x) (substreams - coupled) 1)

pub length-coupled_first : (substreams coupled : ℕ) → coupled ≤ substreams → length (coupled_first substreams coupled) ≡ substreams
length-coupled_first substreams coupled le =
    omega (arith, length-append {A = ℕ} (replicate coupled 2) (replicate (substreams - coupled) 1), length-replicate {A = ℕ} coupled 2, length-replicate {A = ℕ} (substreams - coupled) 1)

-- a sum's first part
pub sum_by-first : {X : Type 0} (f : X → ℕ) (x : X) (xs : List X) → sum_by f (x ∷ xs) ≡ f x + sum_by f xs
sum_by-first f x xs = omega (arith, sum_by-append f (x ∷ []) xs)

abbrev pub both_counts : LayerFields → ℕ
both_counts layer = layer.substream_count + layer.coupled_substream_count

pub sum-layer_channels : (list : List LayerFields) → Each IsCoupled list → sum (layer_channels list) ≡ sum_by both_counts list
sum-layer_channels [] all = refl
sum-layer_channels (layer ∷ list) all =
    omega (
      arith,
      sum_by-append (λ (x : ℕ). x) (coupled_first layer.substream_count layer.coupled_substream_count) (layer_channels list),
      sum-coupled_first layer.substream_count layer.coupled_substream_count all.0,
      sum_by-first both_counts layer list,
      sum-layer_channels list all.1,
    )

pub length-layer_channels : (list : List LayerFields) → Each IsCoupled list → length (layer_channels list) ≡ layers.substreams_of list
length-layer_channels [] all = refl
length-layer_channels (layer ∷ list) all =
    omega (
      arith,
      length-append (coupled_first layer.substream_count layer.coupled_substream_count) (layer_channels list),
      length-coupled_first layer.substream_count layer.coupled_substream_count all.0,
      sum_by-first (λ (l : LayerFields). l.substream_count) layer list,
      length-layer_channels list all.1,
    )

some_is : {A : Type 0} (a b : A) → Some a ≡ Some b → a ≡ b
some_is a b e = cc

-- each substream has its number of channels
pub channels_fit : (count : ℕ) (config : ConfigFields) (channels : List ℕ) → CountsHold count config → substream_channels_of config ≡ Some channels → length channels ≡ count
channels_fit count (Scalable list) channels h e =
    subst (λ (c : List ℕ). length c ≡ count) (some_is _ _ e) (length-layer_channels list h.1 ∙ sym h.2)
channels_fit count (Ambisonics (Mono outputs substreams mapping)) channels h e =
    subst (λ (c : List ℕ). length c ≡ count) (some_is _ _ e) (length-coupled_first substreams 0 (omega arith) ∙ sym h.1)
channels_fit count (Ambisonics (Projection outputs substreams coupled matrix)) channels h e =
    subst (λ (c : List ℕ). length c ≡ count) (some_is _ _ e) (length-coupled_first substreams coupled h.0 ∙ sym h.1)
channels_fit count (Other type bytes) channels h e = absurd cc
