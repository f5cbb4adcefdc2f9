-- Fractions of the code against those of the exact walk, and how large they are.
use Rattle.std.specs.Prelude.{pos, ◌≡◌, ◌<◌, ◌^◌, ◌<ℤ◌, unsigned_abs}
use Rattle.spec_layouts.specs.declared.Channel.{Channel}
use Rattle.spec_layouts.specs.declared.Channel.TheVariants.{M, L, R, C, Lfe, Ls, Rs, Lss, Rss, Lrs, Rrs, Ltf, Rtf, Ltb, Rtb}
use Rattle.spec_demix.specs.declared.Fraction.{Fraction}
use Rattle.spec_demix.specs.ExactWalk.{Quotient, HalfQuotients, Quotients}
use Rattle.demix_layers.specs.declared.fractions.Half.{Half}
use Rattle.demix_layers.specs.declared.fractions.Whole.{Whole}

-- a fraction has this top and bottom
pub record IsQuotient (q : Quotient) (f : Fraction) : Type 0 where
  pub top : f.top ≡ q.top
  pub bottom : f.bottom ≡ pos q.bottom

pub record AreHalf (q : HalfQuotients) (h : Half) : Type 0 where
  pub front : IsQuotient q.front h.front
  pub surround : IsQuotient q.surround h.surround
  pub side : IsQuotient q.side h.side
  pub rear : IsQuotient q.rear h.rear
  pub top : IsQuotient q.top h.top
  pub top_back : IsQuotient q.top_back h.top_back

pub record AreWhole (q : Quotients) (x : Whole) : Type 0 where
  pub mono : IsQuotient q.mono x.mono
  pub center : IsQuotient q.center x.center
  pub low : IsQuotient q.low x.low
  pub left : AreHalf q.left x.left
  pub right : AreHalf q.right x.right

-- its numbers are small
pub record IsBounded (f : Fraction) : Type 0 where
  pub top : unsigned_abs f.top < 2 ^ 120
  pub bottom : f.bottom <ℤ pos (2 ^ 80)

-- a channel of a layout
abbrev pub fraction_at : Whole → Channel → Fraction
fraction_at x M = x.mono
fraction_at x L = x.left.front
fraction_at x R = x.right.front
fraction_at x C = x.center
fraction_at x Lfe = x.low
fraction_at x Ls = x.left.surround
fraction_at x Rs = x.right.surround
fraction_at x Lss = x.left.side
fraction_at x Rss = x.right.side
fraction_at x Lrs = x.left.rear
fraction_at x Rrs = x.right.rear
fraction_at x Ltf = x.left.top
fraction_at x Rtf = x.right.top
fraction_at x Ltb = x.left.top_back
fraction_at x Rtb = x.right.top_back
