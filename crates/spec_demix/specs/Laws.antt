-- The laws of demixing, as the contracts of `src/laws.rt` state them: over each allowed chain without binaural, each mode and
-- weight, and every list of coded samples.
use Rattle.std.specs.Prelude.{ℕ, suc, ◌+◌, ◌*◌, ◌^◌, ◌≡◌, ◌≢◌, ◌≤◌, ◌<◌, List, [], ◌∷◌, ℤ, pos, ◌*ℤ◌, All, unsigned_abs, slice_index_or, length, Some, None}
use Rattle.spec_layouts.specs.declared.Layout.{Layout}
use Rattle.spec_layouts.specs.declared.Channel.{Channel}
use Rattle.spec_layouts.specs.Layouts.{channels}
use Rattle.spec_layouts.specs.Steps.{IsStep}
use Rattle.spec_layouts.specs.Transmitted.{transmitted, pairs_of, singles_of, both_of}
use Rattle.spec_gains.specs.declared.DemixMode.{DemixMode}
use Rattle.spec_gains.specs.Modes.{coefficients_of, IsMode}
use Rattle.spec_demix.specs.declared.DemixLayer.{DemixLayer}
use Rattle.spec_demix.specs.Downmix.{Channels}
use Rattle.spec_demix.specs.Values.{channel_of, value_of, single_of}
use Rattle.spec_demix.specs.Kinds.{kind_of}
use Rattle.spec_demix.specs.OutputGains.{factor_on}
use Rattle.spec_demix.specs.Fits.{FitsOver, IsSame, target_channels}
use Rattle.spec_demix.specs.Sent.{bed_of, first_sent, next_sent, kinds_of, sent_by, IsLayers}
use Rattle.spec_demix.specs.FixedWalk.{fixed_value}
use Rattle.spec_demix.specs.ExactWalk.{exact, exact_channels, exact_fraction, bottom_of}
use Rattle.spec_demix.specs.Sizes.{AreSamples, AreModest, IsNear, IsSmall}

-- what the exact walk gives, over one bottom
abbrev pub exact_list : List DemixLayer → ℕ → DemixMode → ℕ → List ℤ → Channels
exact_list layers target mode w coded =
    exact_channels (kinds_of layers target) (coefficients_of mode) (exact (kinds_of layers) (coefficients_of mode) w (sent_by layers coded) target)

abbrev pub exact_bottom : DemixMode → ℕ
exact_bottom mode = bottom_of (coefficients_of mode)

-- what the exact walk gives fits
abbrev pub SomeListFits : Type 0
SomeListFits = (layers : List DemixLayer) (target : ℕ) (mode : DemixMode) (w : ℕ) (coded : List ℤ) → IsLayers layers target → IsMode mode → w ≤ 5000
    → FitsOver layers target (coefficients_of mode) w coded (exact_bottom mode) (exact_list layers target mode w coded)

-- and two lists that fit have the same channels
abbrev pub OnlyOneFits : Type 0
OnlyOneFits = (layers : List DemixLayer) (target : ℕ) (mode : DemixMode) (w : ℕ) (coded : List ℤ) (a b : ℕ) (x z : Channels) → IsLayers layers target → IsMode mode → w ≤ 5000
    → FitsOver layers target (coefficients_of mode) w coded a x → FitsOver layers target (coefficients_of mode) w coded b z
    → All (λ c. IsSame (channel_of x c) a (channel_of z c) b) (target_channels layers target)

-- each channel of the fixed walk is within 64 units of that of a list that fits
abbrev pub FixedIsNear : Type 0
FixedIsNear = (layers : List DemixLayer) (target : ℕ) (mode : DemixMode) (w : ℕ) (coded : List ℤ) (bottom : ℕ) (x : Channels) → IsLayers layers target → IsMode mode → w ≤ 5000
    → FitsOver layers target (coefficients_of mode) w coded bottom x
    → All (λ c. IsNear bottom x c (fixed_value layers target (coefficients_of mode) w coded c)) (target_channels layers target)

-- the channels of a list that fits are below 2^39
abbrev pub FittingIsSmall : Type 0
FittingIsSmall = (layers : List DemixLayer) (target : ℕ) (mode : DemixMode) (w : ℕ) (coded : List ℤ) (bottom : ℕ) (x : Channels) → IsLayers layers target → IsMode mode → w ≤ 5000
    → AreSamples coded → AreModest layers target → FitsOver layers target (coefficients_of mode) w coded bottom x
    → All (IsSmall bottom x) (target_channels layers target)

-- and so are those of the fixed walk
abbrev pub FixedIsSmall : Type 0
FixedIsSmall = (layers : List DemixLayer) (target : ℕ) (mode : DemixMode) (w : ℕ) (coded : List ℤ) → IsLayers layers target → IsMode mode → w ≤ 5000
    → AreSamples coded → AreModest layers target
    → All (λ c. unsigned_abs (fixed_value layers target (coefficients_of mode) w coded c) < 2 ^ 39 * 2 ^ 28) (target_channels layers target)

-- each fraction of the exact walk is the channel of any list that fits
abbrev pub ExactFits : Type 0
ExactFits = (layers : List DemixLayer) (target : ℕ) (mode : DemixMode) (w : ℕ) (coded : List ℤ) (bottom : ℕ) (x : Channels) → IsLayers layers target → IsMode mode → w ≤ 5000
    → FitsOver layers target (coefficients_of mode) w coded bottom x
    → All (λ c. let f = exact_fraction layers target (coefficients_of mode) w coded c in f.top *ℤ pos bottom ≡ channel_of x c *ℤ pos f.bottom) (target_channels layers target)

-- the channels have, in order, the coded samples from a place on, each times its factor
abbrev pub AreRead : (Channel → ℤ) → DemixLayer → List ℤ → ℕ → List Channel → Type 0
AreRead value layer coded at [] = Unit {0}
AreRead value layer coded at (c ∷ cs) = (value c ≡ slice_index_or coded at (pos 0) *ℤ pos (factor_on layer c)) × AreRead value layer coded (suc at) cs

-- a first layer is read in coded order
abbrev pub FirstIsRead : Type 0
FirstIsRead = (layer : DemixLayer) (coded : List ℤ) → layer.layout ≢ Layout.Binaural
    → AreRead (value_of (kind_of layer.layout) (bed_of coded (first_sent layer))) layer coded 0 (transmitted None layer.layout)

-- and so is a next one: its pairs, and then its singles
abbrev pub NextIsRead : Type 0
NextIsRead = (before : Layout) (layer : DemixLayer) (coded : List ℤ) → IsStep before layer.layout
    → let at = length (channels before) in
    let sent = bed_of coded (next_sent (kind_of before) layer at) in
    let pairs = both_of (pairs_of (Some before) layer.layout) in
    AreRead (value_of (kind_of layer.layout) sent) layer coded at pairs
    × AreRead (single_of sent) layer coded (at + length pairs) (singles_of (Some before) layer.layout)
