-- The layers up to that of a layout: they are an allowed chain, and the last of them has the layout.
use Rattle.std.proofs.Common.{arith, ◌≡◌, ◌≢◌, ◌<◌, ◌≤◌, ◌-◌, ℕ, zero, suc, refl, sym, ap, ◌∙◌, subst, Bool, true, false, if◌then◌else◌, List, [], ◌∷◌, map, length, Some, None, Option}
use Rattle.std.specs.List.{list_any}
use Rattle.std.proofs.lemmas.Bool.{cases_lt, eqb-true}
use Rattle.std.proofs.Math.Logic.{⊎_elim}
use Rattle.spec_layouts.specs.declared.Layout.{Layout}
use Rattle.spec_layouts.specs.declared.Layout.TheVariants.{Binaural}
use Rattle.spec_layouts.specs.Layouts.{code_of, layout_of}
use Rattle.spec_layouts.specs.Steps.{IsStep, IsChain}
use Rattle.spec_layouts.proofs.Codes.{layout_of-code_of}
use Rattle.spec_descriptors.specs.Layers.{OutputGainFields, LayerFields}
use Rattle.spec_demix.specs.Elements.{layer_of, demix_layer_of, demix_layers_of}
use Rattle.spec_demix.specs.Sent.{layer_at, IsLayers}
use Rattle.spec_play.specs.UsedLayers.{is_of, layers_up_to, last_of}

abbrev pub layouts_of : List LayerFields → List Layout
layouts_of layers = map (λ layer. layer.loudspeaker_layout) layers

same_layout : (a b : Layout) → code_of a ≡ code_of b → a ≡ b
same_layout a b e =
    let p : layout_of (code_of a) ≡ layout_of (code_of b) = ap layout_of e in
    let q : layout_of (code_of a) ≡ Some a = layout_of-code_of a in
    let r : layout_of (code_of b) ≡ Some b = layout_of-code_of b in
    cc

pub is_its : (layout : Layout) (layer : LayerFields) → is_of layout layer ≡ true → layer.loudspeaker_layout ≡ layout
is_its layout layer e = same_layout layer.loudspeaker_layout layout (eqb-true _ _ e)

keeps_layout : (layout : Layout) (gain : Option OutputGainFields) → (layer_of layout gain).layout ≡ layout
keeps_layout layout None = refl
keeps_layout layout (Some gain) = refl

-- ---- the chain

up_to_head : (layout : Layout) (first next : LayerFields) (layers : List LayerFields) → IsStep first.loudspeaker_layout next.loudspeaker_layout
    → IsChain (layouts_of (layers_up_to layout (next ∷ layers))) → IsChain (layouts_of (layers_up_to layout (first ∷ next ∷ layers)))
up_to_head layout first next layers step rest =
    elim (is_of layout first) as (λ b. IsChain (layouts_of (first ∷ (if b then [] else layers_up_to layout (next ∷ layers))))) [ true ↦ tt | false ↦ (step, rest) ]

pub chain_up_to : (layout : Layout) (layers : List LayerFields) → IsChain (layouts_of layers) → IsChain (layouts_of (layers_up_to layout layers))
chain_up_to layout [] chain = tt
chain_up_to layout (first ∷ []) chain = elim (is_of layout first) as (λ b. IsChain (layouts_of (first ∷ (if b then [] else [])))) [ true ↦ tt | false ↦ tt ]
chain_up_to layout (first ∷ next ∷ layers) chain = up_to_head layout first next layers chain.0 (chain_up_to layout (next ∷ layers) chain.1)

pub steps_of : (layers : List LayerFields) → IsChain (layouts_of layers) → (j : ℕ) → suc j < length layers
    → IsStep (layer_at (demix_layers_of layers) j).layout (layer_at (demix_layers_of layers) (suc j)).layout
steps_of [] chain j h = absurd (omega arith)
steps_of (first ∷ []) chain j h = absurd (omega arith)
steps_of (first ∷ next ∷ layers) chain zero h =
    subst (λ l. IsStep l (demix_layer_of next).layout) (sym (keeps_layout first.loudspeaker_layout first.gain))
    (subst (λ l. IsStep first.loudspeaker_layout l) (sym (keeps_layout next.loudspeaker_layout next.gain)) chain.0)
steps_of (first ∷ next ∷ layers) chain (suc j) h = steps_of (next ∷ layers) chain.1 j (omega arith)

-- ---- the last layer

some_up_to : (layout : Layout) (layers : List LayerFields) → list_any (is_of layout) layers ≡ true → 0 < length (layers_up_to layout layers)
some_up_to layout [] e = absurd (cc)
some_up_to layout (layer ∷ layers) e = omega arith

abbrev pub LastHas : Layout → List LayerFields → Type 0
LastHas layout layers = (layer_at (demix_layers_of layers) (last_of layers)).layout ≡ layout

past_first : (layout : Layout) (first : LayerFields) (layers : List LayerFields) → 0 < length layers → LastHas layout layers → LastHas layout (first ∷ layers)
past_first layout first [] h last = absurd (omega arith)
past_first layout first (next ∷ layers) h last = let e : suc (suc (length layers)) - 1 ≡ suc (suc (length layers) - 1) = omega arith in rw e last

last_by : (layout : Layout) (layer : LayerFields) (layers : List LayerFields) (b : Bool) → is_of layout layer ≡ b → list_any (is_of layout) (layer ∷ layers) ≡ true
    → (list_any (is_of layout) layers ≡ true → LastHas layout (layers_up_to layout layers)) → LastHas layout (layer ∷ (if b then [] else layers_up_to layout layers))
last_by layout layer layers true own some rest = keeps_layout layer.loudspeaker_layout layer.gain ∙ is_its layout layer own
last_by layout layer layers false own some rest =
    let more : list_any (is_of layout) layers ≡ true = rw own at some in
    past_first layout layer (layers_up_to layout layers) (some_up_to layout layers more) (rest more)

pub last_has : (layout : Layout) (layers : List LayerFields) → list_any (is_of layout) layers ≡ true → LastHas layout (layers_up_to layout layers)
last_has layout [] e = absurd (cc)
last_has layout (layer ∷ layers) e = last_by layout layer layers (is_of layout layer) refl e (last_has layout layers)

-- ---- what demixing asks of its layers

speakers_of : (layout : Layout) (layers : List LayerFields) → layout ≢ Binaural → LastHas layout layers → IsChain (layouts_of layers) → 0 < length layers
    → (j : ℕ) → j ≤ last_of layers → (layer_at (demix_layers_of layers) j).layout ≢ Binaural
speakers_of layout layers hearable last chain some j h =
    ⊎_elim (λ below. (steps_of layers chain j below).from_speakers) (λ above. let e : j ≡ last_of layers = omega arith in subst (λ i. (layer_at (demix_layers_of layers) i).layout ≢ Binaural) (sym e) (subst (λ l. l ≢ Binaural) (sym last) hearable)) (cases_lt (suc j) (length layers))

pub layers_allowed : (layout : Layout) (layers : List LayerFields) → layout ≢ Binaural → IsChain (layouts_of layers) → list_any (is_of layout) layers ≡ true
    → IsLayers (demix_layers_of (layers_up_to layout layers)) (last_of (layers_up_to layout layers))
layers_allowed layout layers hearable chain some =
    let used = layers_up_to layout layers in
    let count : 0 < length used = some_up_to layout layers some in
    let up = chain_up_to layout layers chain in
    record {
      steps = λ j h. steps_of used up j (omega arith);
      speakers = speakers_of layout used hearable (last_has layout layers some) up count;
    }
