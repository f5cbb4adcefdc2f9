-- What is added of an element at one tick.
use Rattle.std.specs.Prelude.{◌≡◌, ◌≤◌, ◌<◌, ℕ, ℤ, pos, List, Option, Some, None, length, slice_index_or}
use Rattle.spec_gains.specs.Modes.{coefficients_of}
use Rattle.spec_demix.specs.declared.DemixLayer.{DemixLayer}
use Rattle.spec_demix.specs.Fits.{target_channels}
use Rattle.spec_demix.specs.FixedWalk.{fixed_row}
use Rattle.mix_fixed.specs.Kernel.{target_of}
use Rattle.demix_channels.specs.declared.params.DemixParams.{DemixParams}
use Rattle.demix_layers.specs.SceneView.{IsPlayed}
use Rattle.obu_element_config.specs.declared.config.ElementConfig.{ElementConfig}
use Rattle.iamf_mixing.specs.Scenes.{scene_units}

-- there is a sum for each channel, and a coded sample for each that is needed
abbrev pub CanAdd : Option (List DemixLayer) → ElementConfig → (coded sums : ℕ) → Type 0
CanAdd (Some kernel) config coded sums = (sums ≡ length (target_channels kernel (target_of kernel))) × (sums ≤ coded)
CanAdd None config coded sums = (c : ℕ) → c < sums → IsPlayed config coded c

-- channel c by the kernel, or by the scene
abbrev pub added : Option (List DemixLayer) → ElementConfig → DemixParams → List ℤ → ℕ → ℤ
added (Some kernel) config params coded c = slice_index_or (fixed_row kernel (target_of kernel) (coefficients_of params.mode) params.weight coded) c (pos 0)
added None config params coded c = scene_units config coded c
