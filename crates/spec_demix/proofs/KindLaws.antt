-- The laws of lists that fit, by kinds of channels.
use Rattle.std.specs.Prelude.{ℕ, ◌*◌, ◌^◌, ◌≡◌, ◌≢◌, ◌≤◌, ◌<◌, ℤ, pos, ◌*ℤ◌, ◌-ℤ◌, All, unsigned_abs}
use Rattle.spec_layouts.specs.declared.Layout.{Layout}
use Rattle.spec_layouts.specs.Layouts.{channels}
use Rattle.spec_demix.proofs.KindFits.{FitsKinds, IsChain}
use Rattle.spec_demix.specs.Fits.{IsSame}
use Rattle.spec_demix.specs.Downmix.{Channels}
use Rattle.spec_demix.specs.ExactWalk.{exact, exact_channels, bottom_of}
use Rattle.spec_demix.specs.FixedWalk.{fixed}
use Rattle.spec_demix.specs.Floor.{unit}
use Rattle.spec_demix.specs.Kinds.{kind_of}
use Rattle.spec_demix.specs.Values.{channel_of, value_of}
use Rattle.spec_demix.specs.declared.Bed.{Bed}
use Rattle.spec_demix.specs.declared.Kind.{Kind}
use Rattle.spec_demix.specs.declared.Side.{Side}
use Rattle.spec_demix.specs.declared.Tops.{Tops}
use Rattle.spec_gains.proofs.ModeLemmas.{Row, of}

-- some list fits
abbrev pub KindSomeFits : Type 0
KindSomeFits = (kind : ℕ → Kind) (target : ℕ) (mode : Row) (w : ℕ) (y : ℕ → Bed) → IsChain kind target
    → FitsKinds kind target mode w y (bottom_of (of mode)) (exact_channels (kind target) (of mode) (exact kind (of mode) w y target))

-- and no other one
abbrev pub KindOnlyOneFits : Type 0
KindOnlyOneFits = (layout : Layout) (kind : ℕ → Kind) (target : ℕ) (mode : Row) (w : ℕ) (y : ℕ → Bed) (a b : ℕ) (x z : Channels)
    → IsChain kind target → w ≤ 5000 → kind target ≡ kind_of layout → layout ≢ Layout.Binaural
    → FitsKinds kind target mode w y a x → FitsKinds kind target mode w y b z
    → All (λ c. IsSame (channel_of x c) a (channel_of z c) b) (channels layout)

-- each channel of the kernel's walk differs from the one that fits by less than 64 units
abbrev pub KindFixedIsNear : Type 0
KindFixedIsNear = (layout : Layout) (kind : ℕ → Kind) (target : ℕ) (mode : Row) (w : ℕ) (y : ℕ → Bed) (bottom : ℕ) (x : Channels)
    → IsChain kind target → w ≤ 5000 → kind target ≡ kind_of layout → layout ≢ Layout.Binaural
    → FitsKinds kind target mode w y bottom x
    → All (λ c. unsigned_abs (value_of (kind target) (fixed kind (of mode) w y target) c *ℤ pos bottom -ℤ pos unit *ℤ channel_of x c) < 64 * bottom) (channels layout)

-- a sample of 32 bits, in parts of 10^12, without a gain and with one of at most 8192 in 1/256 decibels
abbrev pub IsPlain : ℤ → Type 0
IsPlain y = unsigned_abs y ≤ 2 ^ 31 * 1000000000000

abbrev pub IsGained : ℤ → Type 0
IsGained y = unsigned_abs y ≤ 2 ^ 31 * 39810717055340

pub record IsSmallSide (y : Side) : Type 0 where
  pub two : IsGained y.two
  pub three : IsGained y.three
  pub five : IsPlain y.five
  pub surround : IsGained y.surround
  pub side : IsPlain y.side
  pub rear : IsPlain y.rear

pub record IsSmallTops (y : Tops) : Type 0 where
  pub three : IsGained y.three
  pub two : IsGained y.two
  pub four : IsGained y.four
  pub back : IsPlain y.back

pub record IsSmallBed (y : Bed) : Type 0 where
  pub mono : IsGained y.mono
  pub center : IsPlain y.center
  pub low : IsPlain y.low
  pub left : IsSmallSide y.left
  pub right : IsSmallSide y.right
  pub left_top : IsSmallTops y.left_top
  pub right_top : IsSmallTops y.right_top

-- each channel of a list that fits is below 2^39 in absolute value
abbrev pub KindFittingIsSmall : Type 0
KindFittingIsSmall = (layout : Layout) (kind : ℕ → Kind) (target : ℕ) (mode : Row) (w : ℕ) (y : ℕ → Bed) (bottom : ℕ) (x : Channels)
    → IsChain kind target → w ≤ 5000 → kind target ≡ kind_of layout → layout ≢ Layout.Binaural → ((j : ℕ) → j ≤ target → IsSmallBed (y j)) → FitsKinds kind target mode w y bottom x
    → All (λ c. unsigned_abs (channel_of x c) < 2 ^ 39 * bottom) (channels layout)

-- and so is each channel of the kernel's walk
abbrev pub KindFixedIsSmall : Type 0
KindFixedIsSmall = (layout : Layout) (kind : ℕ → Kind) (target : ℕ) (mode : Row) (w : ℕ) (y : ℕ → Bed)
    → IsChain kind target → w ≤ 5000 → kind target ≡ kind_of layout → layout ≢ Layout.Binaural → ((j : ℕ) → j ≤ target → IsSmallBed (y j))
    → All (λ c. unsigned_abs (value_of (kind target) (fixed kind (of mode) w y target) c) < 2 ^ 39 * 2 ^ 28) (channels layout)
