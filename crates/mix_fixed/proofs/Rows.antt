-- What a kernel writes: the fixed walk's channels, each near to those that fit, and small.
use Rattle.std.proofs.Common.{◌<◌, ◌≤◌, ℕ, ℤ, ◌*◌, ◌^◌, List, [], ◌∷◌, map, unsigned_abs}
use Rattle.std.specs.Prelude.{All}
use Rattle.std.specs.List.{AllZip}
use Rattle.std.proofs.lemmas.List.Elements.{All-head, All-tail, All-map}
use Rattle.spec_layouts.specs.declared.Channel.{Channel}
use Rattle.spec_gains.specs.declared.DemixMode.{DemixMode}
use Rattle.spec_gains.specs.Modes.{coefficients_of, IsMode}
use Rattle.spec_demix.specs.declared.DemixLayer.{DemixLayer}
use Rattle.spec_demix.specs.Downmix.{Channels}
use Rattle.spec_demix.specs.Sent.{IsLayers}
use Rattle.spec_demix.specs.Fits.{FitsOver, target_channels}
use Rattle.spec_demix.specs.FixedWalk.{fixed_value, fixed_row}
use Rattle.spec_demix.specs.Sizes.{AreSamples, AreModest, IsNear}
use Rattle.spec_demix.proofs.Layered.{walk_is_near, walk_is_small}

zipped : {B : Type 0} (R : Channel → B → Type 0) (v : Channel → B) (cs : List Channel) → All (λ c. R c (v c)) cs → AllZip R cs (map v cs)
zipped R v [] h = tt
zipped R v (c ∷ cs) h = (All-head (λ c. R c (v c)) c cs h, zipped R v cs (All-tail (λ c. R c (v c)) c cs h))

pub row_near : (layers : List DemixLayer) (target : ℕ) (mode : DemixMode) (w : ℕ) (coded : List ℤ) (bottom : ℕ) (x : Channels) → IsLayers layers target → IsMode mode → w ≤ 5000
    → FitsOver layers target (coefficients_of mode) w coded bottom x
    → AllZip (IsNear bottom x) (target_channels layers target) (fixed_row layers target (coefficients_of mode) w coded)
row_near layers target mode w coded bottom x chain m small f =
    zipped (IsNear bottom x) (fixed_value layers target (coefficients_of mode) w coded) (target_channels layers target) (walk_is_near layers target mode w coded bottom x chain m small f)

pub row_small : (layers : List DemixLayer) (target : ℕ) (mode : DemixMode) (w : ℕ) (coded : List ℤ) → IsLayers layers target → IsMode mode → w ≤ 5000 → AreSamples coded → AreModest layers target
    → All (λ f. unsigned_abs f < 2 ^ 39 * 2 ^ 28) (fixed_row layers target (coefficients_of mode) w coded)
row_small layers target mode w coded chain m small s g =
    All-map (λ f. unsigned_abs f < 2 ^ 39 * 2 ^ 28) (fixed_value layers target (coefficients_of mode) w coded) (target_channels layers target) (walk_is_small layers target mode w coded chain m small s g)
