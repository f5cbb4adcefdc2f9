-- The layers of an element as they are read: each may follow the one before it, and has the substreams of what it transmits.
use Rattle.std.proofs.Common.{◌≡◌, ℕ, ◌+◌, zero, suc, false, List, [], ◌∷◌, ◌++◌, Option, Some, None, length, map, sym, subst}
use Rattle.std.proofs.lemmas.Bool.{eqb-true, not-false}
use Rattle.spec_syntax.specs.Syntax.{each}
use Rattle.spec_syntax.specs.Payload.{FieldValue}
use Rattle.spec_syntax.proofs.Fields.{Has, field_step, end_step, bind_step}
use Rattle.spec_layouts.specs.declared.Layout.{Layout}
use Rattle.spec_layouts.specs.Layouts.{layout_of}
use Rattle.spec_layouts.specs.Steps.{IsAllowed, is_allowed, IsChain}
use Rattle.spec_layouts.specs.Transmitted.{pairs_of, singles_of}
use Rattle.spec_layouts.proofs.StepTest.{allowed_decides}
use Rattle.spec_bits.proofs.Outcomes.{both_true}
use Rattle.spec_descriptors.specs.Layers.{LayerFields, is_refused, layer_at, layer_after, layer_in, last_layout, scalable_config}
use Rattle.spec_descriptors.proofs.LayersIs.{layer_of_is}

pub record IsLayer (before : Option Layout) (layer : LayerFields) : Type 0 where
  pub allowed : IsAllowed before layer.loudspeaker_layout
  pub substreams : layer.substream_count ≡ length (pairs_of before layer.loudspeaker_layout) + length (singles_of before layer.loudspeaker_layout)
  pub coupled : layer.coupled_substream_count ≡ length (pairs_of before layer.loudspeaker_layout)

-- each after the layout of the one before it
abbrev pub AreLayers : Option Layout → List LayerFields → Type 0
AreLayers before [] = Unit {0}
AreLayers before (layer ∷ layers) = IsLayer before layer × AreLayers (Some layer.loudspeaker_layout) layers

-- ---- one layer

layer_at_read : (before layout : Option Layout) (xs : List FieldValue) (r : LayerFields) → is_refused before layout ≡ false → Has (layer_at before layout) xs r → IsLayer before r
layer_at_read before None xs r passed h = absurd cc
layer_at_read before (Some now) xs r passed h =
    let t = layer_of_is before now xs r h in
    let counts = both_true _ _ (not-false _ t.2) in
    let allowed : IsAllowed before now = (allowed_decides before now).0 (not-false (is_allowed before now) passed) in
    record {
      allowed = subst (IsAllowed before) (sym t.0) allowed;
      substreams = rw t.0 (eqb-true _ _ counts.0);
      coupled = rw t.0 (eqb-true _ _ counts.1);
    }

pub layer_read : (after : ℕ) (before : List LayerFields) (xs : List FieldValue) (r : LayerFields) → Has (layer_in after before) xs r → IsLayer (last_layout before) r
unfolding layer_after
layer_read after before xs r h = field_step h λ code ys e f p h1. layer_at_read (last_layout before) (layout_of code) ys r p.0 h1

-- ---- all layers

one_more : (before : Option Layout) (first : LayerFields) (layers : List LayerFields) (layer : LayerFields)
    → AreLayers before (first ∷ layers) → IsLayer (last_layout (first ∷ layers)) layer → AreLayers before (first ∷ (layers ++ layer ∷ []))
one_more before first [] layer all one = (all.0, (one, tt))
one_more before first (next ∷ layers) layer all one = (all.0, one_more (Some first.loudspeaker_layout) next layers layer all.1 one)

layers_more : (layers : List LayerFields) (layer : LayerFields) → AreLayers None layers → IsLayer (last_layout layers) layer → AreLayers None (layers ++ layer ∷ [])
layers_more [] layer all one = (one, tt)
layers_more (first ∷ layers) layer all one = one_more None first layers layer all one

each_read : (n : ℕ) (before : List LayerFields) (xs : List FieldValue) (r : List LayerFields) → AreLayers None before → Has (each n layer_in before) xs r → AreLayers None r
unfolding each
each_read zero before xs r all h = end_step h λ e is. subst (AreLayers None) is all
each_read (suc n) before xs r all h =
    bind_step (layer_in n before) _ h λ front others layer e first rest.
    each_read n (before ++ layer ∷ []) others r (layers_more before layer all (layer_read n before front layer first)) rest

pub layers_read : (xs : List FieldValue) (r : List LayerFields) → Has scalable_config xs r → AreLayers None r
unfolding scalable_config
layers_read xs r h =
    field_step h λ count ys e f p h1.
    field_step h1 λ reserved ys1 e1 f1 p1 h2.
    each_read count [] ys1 r tt h2

-- ---- their layouts are an allowed chain

chain_after : (first : LayerFields) (layers : List LayerFields) → AreLayers (Some first.loudspeaker_layout) layers → IsChain (map (λ layer. layer.loudspeaker_layout) (first ∷ layers))
chain_after first [] all = tt
chain_after first (next ∷ layers) all = (all.0.allowed, chain_after next layers all.1)

pub layers_chain : (layers : List LayerFields) → AreLayers None layers → IsChain (map (λ layer. layer.loudspeaker_layout) layers)
layers_chain [] all = tt
layers_chain (first ∷ layers) all = chain_after first layers all.1
