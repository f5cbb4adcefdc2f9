-- What a list that fits says of each kind of channel, by thresholds on the counts of the layers: no statement of it goes by
-- cases over layouts.
use Rattle.std.specs.Prelude.{ℕ, suc, ◌≡◌, ◌≤◌, ◌<◌, ℤ, pos, ◌*ℤ◌}
use Rattle.spec_demix.specs.Downmix.{Channels, down}
use Rattle.spec_demix.specs.declared.Bed.{Bed}
use Rattle.spec_demix.specs.declared.Kind.{Kind}
use Rattle.spec_demix.specs.declared.Side.{Side}
use Rattle.spec_demix.specs.declared.Tops.{Tops}
use Rattle.spec_gains.proofs.ModeLemmas.{Row, of}

-- the pairs of counts that a layout has, as far as the steps ask
pub record IsKind (k : Kind) : Type 0 where
  pub high : k.height ≤ 4
  pub even : (k.height < 2 → k.height ≡ 0) × (2 < k.height → k.height ≡ 4)
  pub low : k.surround < 3 → k.height ≡ 0
  pub three : 3 ≤ k.surround → k.surround < 5 → k.height ≡ 2

-- a channel w of a downmix, in parts of 10^10 of a bottom, is the coded sample times its gain, y, in parts of 10^12
abbrev pub CarriesAs : ℕ → ℤ → ℤ → Type 0
CarriesAs bottom w y = pos 100 *ℤ w ≡ y *ℤ pos bottom

-- one side of a first layer's channels
pub record CarriesFirstSide (kind bottom : ℕ) (w y : Side) : Type 0 where
  pub two : 2 ≤ kind → kind < 3 → CarriesAs bottom w.two y.two
  pub three : 3 ≤ kind → kind < 5 → CarriesAs bottom w.three y.three
  pub five : 5 ≤ kind → CarriesAs bottom w.five y.five
  pub surround : 5 ≤ kind → kind < 7 → CarriesAs bottom w.surround y.surround
  pub side : 7 ≤ kind → CarriesAs bottom w.side y.side
  pub rear : 7 ≤ kind → CarriesAs bottom w.rear y.rear

pub record CarriesFirstTops (kind : Kind) (bottom : ℕ) (w y : Tops) : Type 0 where
  pub three : 2 ≤ kind.height → kind.surround < 5 → CarriesAs bottom w.three y.three
  pub two : 2 ≤ kind.height → kind.height < 4 → 5 ≤ kind.surround → CarriesAs bottom w.two y.two
  pub four : 4 ≤ kind.height → CarriesAs bottom w.four y.four
  pub back : 4 ≤ kind.height → CarriesAs bottom w.back y.back

-- a first layer transmits all its channels
pub record FirstCarriesAs (kind : Kind) (bottom : ℕ) (w y : Bed) : Type 0 where
  pub mono : kind.surround < 2 → pos 100 *ℤ w.mono ≡ pos 2 *ℤ (y.mono *ℤ pos bottom)
  pub center : 3 ≤ kind.surround → CarriesAs bottom w.center y.center
  pub low : 3 ≤ kind.surround → CarriesAs bottom w.low y.low
  pub left : CarriesFirstSide kind.surround bottom w.left y.left
  pub right : CarriesFirstSide kind.surround bottom w.right y.right
  pub left_top : CarriesFirstTops kind bottom w.left_top y.left_top
  pub right_top : CarriesFirstTops kind bottom w.right_top y.right_top

-- one side of what a next layer transmits, but for stereo
pub record CarriesNextSide (before now bottom : ℕ) (w y : Side) : Type 0 where
  pub five : before < 5 → 5 ≤ now → CarriesAs bottom w.five y.five
  pub side : before < 7 → 7 ≤ now → CarriesAs bottom w.side y.side

pub record CarriesNextTops (before now : Kind) (bottom : ℕ) (w y : Tops) : Type 0 where
  pub three : before.height < 2 → 2 ≤ now.height → now.surround < 5 → CarriesAs bottom w.three y.three
  pub two : before.height < 2 → 2 ≤ now.height → now.height < 4 → 5 ≤ now.surround → CarriesAs bottom w.two y.two
  pub four : before.height < 4 → 4 ≤ now.height → CarriesAs bottom w.four y.four
  pub back : before.height < 2 → 4 ≤ now.height → CarriesAs bottom w.back y.back

-- a next layer transmits what its kind adds
pub record NextCarriesAs (before now : Kind) (bottom : ℕ) (w y : Bed) : Type 0 where
  pub stereo : before.surround < 2 → 2 ≤ now.surround → CarriesAs bottom w.left.two y.left.two
  pub center : before.surround < 3 → 3 ≤ now.surround → CarriesAs bottom w.center y.center
  pub low : before.surround < 3 → 3 ≤ now.surround → CarriesAs bottom w.low y.low
  pub left : CarriesNextSide before.surround now.surround bottom w.left y.left
  pub right : CarriesNextSide before.surround now.surround bottom w.right y.right
  pub left_top : CarriesNextTops before now bottom w.left_top y.left_top
  pub right_top : CarriesNextTops before now bottom w.right_top y.right_top

-- x, over a bottom, meets every layer up to the target; layer j has the kind `kind j` and the coded samples `y j`, each times its gain
pub record FitsKinds (kind : ℕ → Kind) (target : ℕ) (mode : Row) (w : ℕ) (y : ℕ → Bed) (bottom : ℕ) (x : Channels) : Type 0 where
  pub some : 0 < bottom
  pub first : FirstCarriesAs (kind 0) bottom (down (kind target) (of mode) w x) (y 0)
  pub next : (j : ℕ) → j < target → NextCarriesAs (kind j) (kind (suc j)) bottom (down (kind target) (of mode) w x) (y (suc j))

-- the kinds of an allowed chain
pub record IsChain (kind : ℕ → Kind) (target : ℕ) : Type 0 where
  pub kinds : (j : ℕ) → j ≤ target → IsKind (kind j)
  pub rises : (j : ℕ) → j < target → (kind j).surround ≤ (kind (suc j)).surround
  pub climbs : (j : ℕ) → j < target → (kind j).height ≤ (kind (suc j)).height
