-- IAMF 1.0.0, "Scalable Channel Layout Config Syntax and Semantics".
use Rattle.std.specs.Prelude.{ℕ, ℤ, ◌+◌, Bool, true, not, ◌&&◌, ◌||◌, List, [], ◌∷◌, Option, Some, None, ◌==◌, length, sum_by}
use Rattle.spec_bits.specs.Form.{Number, Signed, Reserved}
use Rattle.spec_syntax.specs.Syntax.{Syntax, End, Choice, Check, field, refuse, each, ◌>>=◌, ◌>>◌}
use Rattle.spec_layouts.specs.declared.Layout.{Layout}
use Rattle.spec_layouts.specs.declared.Layout.TheVariants.{Mono}
use Rattle.spec_layouts.specs.Layouts.{layout_of}
use Rattle.spec_layouts.specs.Steps.{is_allowed}
use Rattle.spec_layouts.specs.Transmitted.{pairs_of, singles_of}
use Rattle.spec_descriptors.specs.declared.fault.DescriptorFault.{DescriptorFault}
use Rattle.spec_descriptors.specs.declared.fault.DescriptorFault.TheVariants as fault

pub record OutputGainFields : Type 0 where
  pub output_gain_flags : ℕ
  pub output_gain : ℤ

pub record LayerFields : Type 0 where
  pub loudspeaker_layout : Layout
  pub gain : Option OutputGainFields
  pub recon_gain_is_present : Bool
  pub substream_count : ℕ
  pub coupled_substream_count : ℕ

-- the layout of the layer before
abbrev pub last_layout : List LayerFields → Option Layout
last_layout [] = None
last_layout (layer ∷ []) = Some layer.loudspeaker_layout
last_layout (layer ∷ next ∷ layers) = last_layout (next ∷ layers)

-- the layout of the code may not come after the one before: it is none, or the step is not allowed
abbrev pub is_refused : Option Layout → Option Layout → Bool
is_refused before None = true
is_refused before (Some now) = not (is_allowed before now)

-- the counts are not those of the channels that the layer transmits
abbrev pub are_other : Option Layout → Layout → ℕ → ℕ → Bool
are_other before now substreams coupled =
    not (substreams == length (pairs_of before now) + length (singles_of before now) && coupled == length (pairs_of before now))

unfoldable pub output_gain : Syntax DescriptorFault (Option OutputGainFields)
output_gain = do
  output_gain_flags ← field (Number 6) []
  field (Reserved 2) []
  gain ← field (Signed 16) []
  End (Some (record { output_gain_flags = output_gain_flags; output_gain = gain }))

-- the rest of a layer, after its layout
unfoldable pub layer_of : Option Layout → Layout → Syntax DescriptorFault LayerFields
layer_of before now = do
  output_gain_is_present ← field (Number 1) []
  recon_gain_is_present ← field (Number 1) []
  field (Reserved 2) []
  substream_count ← field (Number 8) []
  coupled_substream_count ← field (Number 8) (refuse fault.Layers (λ n. are_other before now substream_count n) ∷ [])
  gain ← Choice (output_gain_is_present == 1) output_gain (End None)
  End (record {
    loudspeaker_layout = now;
    gain = gain;
    recon_gain_is_present = recon_gain_is_present == 1;
    substream_count = substream_count;
    coupled_substream_count = coupled_substream_count;
  })

-- the layer of a layout that passed
abbrev pub layer_at : Option Layout → Option Layout → Syntax DescriptorFault LayerFields
layer_at before None = Check true fault.Layers (layer_of before Mono)
layer_at before (Some now) = layer_of before now

-- A layer's layout and its step are tested right after the layout, and its counts after the second of them.
unfoldable pub layer_after : Option Layout → Syntax DescriptorFault LayerFields
layer_after before = do
  loudspeaker_layout ← field (Number 4) (refuse fault.Layers (λ n. is_refused before (layout_of n)) ∷ [])
  layer_at before (layout_of loudspeaker_layout)

abbrev pub layer_in : ℕ → List LayerFields → Syntax DescriptorFault LayerFields
layer_in after before = layer_after (last_layout before)

-- how many substreams the layers have
abbrev pub substreams_of : List LayerFields → ℕ
substreams_of layers = sum_by (λ layer. layer.substream_count) layers

unfoldable pub scalable_config : Syntax DescriptorFault (List LayerFields)
scalable_config = do
  num_layers ← field (Number 3) (refuse fault.Layers (λ n. n == 0 || n == 7) ∷ [])
  field (Reserved 5) []
  each num_layers layer_in []
