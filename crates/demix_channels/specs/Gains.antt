-- Which output gains are played.
use Rattle.std.specs.Prelude.{◌≤◌, Option, Some, None, pos, ◌≤ℤ◌, List, slice_get, ℕ}
use Rattle.obu_element_config.specs.declared.layer.OutputGain.{OutputGain}
use Rattle.obu_element_config.specs.declared.layer.Layer.{Layer}

-- none, or one of at most 32 dB
abbrev pub IsModestGain : Option OutputGain → Type 0
IsModestGain None = Unit {0}
IsModestGain (Some output) = output.gain ≤ℤ pos 8192

abbrev pub IsModestLayer : Option Layer → Type 0
IsModestLayer None = Unit {0}
IsModestLayer (Some layer) = IsModestGain layer.gain

-- no layer up to the target has an output gain above 32 dB
abbrev pub HaveModestGains : List Layer → ℕ → Type 0
HaveModestGains layers target = (j : ℕ) → j ≤ target → IsModestLayer (slice_get layers j)
