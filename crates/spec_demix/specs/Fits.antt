-- Which channels of a target layer are right for the coded samples: those whose downmix to each layer is what that layer
-- transmits. Nothing is demixed here.
use Rattle.std.specs.Prelude.{ℕ, suc, ◌+◌, ◌≡◌, ◌<◌, List, [], ◌∷◌, ℤ, pos, ◌*ℤ◌, slice_index_or, length, Some, None}
use Rattle.std.specs.List.{AllZip}
use Rattle.spec_layouts.specs.declared.Layout.{Layout}
use Rattle.spec_layouts.specs.declared.Channel.{Channel}
use Rattle.spec_layouts.specs.declared.Channel.TheVariants.{M}
use Rattle.spec_layouts.specs.Layouts.{channels}
use Rattle.spec_layouts.specs.Transmitted.{transmitted, pairs_of, singles_of, both_of}
use Rattle.spec_gains.specs.Modes.{Coefficients}
use Rattle.spec_demix.specs.declared.Bed.{Bed}
use Rattle.spec_demix.specs.declared.DemixLayer.{DemixLayer}
use Rattle.spec_demix.specs.declared.Fraction.{Fraction}
use Rattle.spec_demix.specs.Kinds.{kind_of}
use Rattle.spec_demix.specs.Downmix.{Channels, down}
use Rattle.spec_demix.specs.Values.{channel_of, value_of, single_of}
use Rattle.spec_demix.specs.OutputGains.{factor_on}
use Rattle.spec_demix.specs.Sent.{layer_at, kinds_of, place_after}

-- the parts of one in which a downmix has a channel
abbrev pub parts_of : Channel → ℕ
parts_of M = 20000000000
parts_of _ = 10000000000

-- v, a channel of a downmix in parts of a bottom, is the coded sample y times the factor over 10^12
abbrev pub Carries : ℕ → Channel → ℤ → ℤ → ℕ → Type 0
Carries bottom channel v y factor = pos 1000000000000 *ℤ v ≡ pos (parts_of channel) *ℤ ((y *ℤ pos factor) *ℤ pos bottom)

-- the channels of a downmix carry, in their order, the coded samples from a place on, each times what the layer's gain says
abbrev pub AllCarry : (Channel → ℤ) → DemixLayer → ℕ → List ℤ → ℕ → List Channel → Type 0
AllCarry value layer bottom coded at [] = Unit {0}
AllCarry value layer bottom coded at (c ∷ cs) = Carries bottom c (value c) (slice_index_or coded at (pos 0)) (factor_on layer c) × AllCarry value layer bottom coded (suc at) cs

-- a first layer carries all that it transmits
abbrev pub FirstCarries : DemixLayer → ℕ → List ℤ → Bed → Type 0
FirstCarries layer bottom coded downmix =
    AllCarry (value_of (kind_of layer.layout) downmix) layer bottom coded 0 (transmitted None layer.layout)

-- and so does a next one: the coupled pairs from a place on, and then the single channels
abbrev pub NextCarries : Layout → DemixLayer → ℕ → List ℤ → ℕ → Bed → Type 0
NextCarries before layer bottom coded at downmix =
    let pairs = both_of (pairs_of (Some before) layer.layout) in
    AllCarry (value_of (kind_of layer.layout) downmix) layer bottom coded at pairs
    × AllCarry (single_of downmix) layer bottom coded (at + length pairs) (singles_of (Some before) layer.layout)

-- x, over a bottom, are channels of the target that fit: every layer up to the target carries what it transmits
pub record FitsOver (layers : List DemixLayer) (target : ℕ) (mode : Coefficients) (w : ℕ) (coded : List ℤ) (bottom : ℕ) (x : Channels) : Type 0 where
  pub some : 0 < bottom
  pub first : FirstCarries (layer_at layers 0) bottom coded (down (kinds_of layers target) mode w x)
  pub next : (j : ℕ) → j < target → NextCarries (layer_at layers j).layout (layer_at layers (suc j)) bottom coded (place_after layers j) (down (kinds_of layers target) mode w x)

abbrev pub target_channels : List DemixLayer → ℕ → List Channel
target_channels layers target = channels (layer_at layers target).layout

-- two fractions are one
abbrev pub IsSame : ℤ → ℕ → ℤ → ℕ → Type 0
IsSame x a z b = x *ℤ pos b ≡ z *ℤ pos a

-- a fraction is a channel of x, which stands over a bottom
abbrev pub IsChannel : ℕ → Channels → Channel → Fraction → Type 0
IsChannel bottom x c f = f.top *ℤ pos bottom ≡ channel_of x c *ℤ f.bottom

-- a list of fractions fits: over one bottom, they are channels of the target that fit, in the order of a WAV file
abbrev pub Fits : List DemixLayer → ℕ → Coefficients → ℕ → List ℤ → List Fraction → Type 0
Fits layers target mode w coded xs = (bottom : ℕ) × (x : Channels) × FitsOver layers target mode w coded bottom x × AllZip (IsChannel bottom x) (target_channels layers target) xs
