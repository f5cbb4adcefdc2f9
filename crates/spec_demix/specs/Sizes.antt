-- How large samples, gains and channels are.
use Rattle.std.specs.Prelude.{ℕ, ◌*◌, ◌^◌, ◌≤◌, ◌<◌, List, ℤ, pos, ◌-ℤ◌, ◌*ℤ◌, All, unsigned_abs}
use Rattle.spec_layouts.specs.declared.Channel.{Channel}
use Rattle.spec_demix.specs.declared.DemixLayer.{DemixLayer}
use Rattle.spec_demix.specs.Floor.{unit}
use Rattle.spec_demix.specs.Downmix.{Channels}
use Rattle.spec_demix.specs.Values.{channel_of}
use Rattle.spec_demix.specs.Sent.{layer_at}

-- coded samples of 32 bits
abbrev pub AreSamples : List ℤ → Type 0
AreSamples coded = All (λ y. unsigned_abs y ≤ 2 ^ 31) coded

-- no output gain of a layer up to the target is above 32 dB
abbrev pub AreModest : List DemixLayer → ℕ → Type 0
AreModest layers target = (j : ℕ) → j ≤ target → (layer_at layers j).factor ≤ 39810717055340

-- f, in units, is within 64 units of a channel of x, which stands over a bottom
abbrev pub IsNear : ℕ → Channels → Channel → ℤ → Type 0
IsNear bottom x c f = unsigned_abs (f *ℤ pos bottom -ℤ pos unit *ℤ channel_of x c) < 64 * bottom

-- a channel of x is below 2^39 in absolute value
abbrev pub IsSmall : ℕ → Channels → Channel → Type 0
IsSmall bottom x c = unsigned_abs (channel_of x c) < 2 ^ 39 * bottom
