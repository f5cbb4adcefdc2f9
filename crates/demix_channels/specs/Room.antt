-- What the private functions ask of sizes, so that no number overflows; no definitions of what is meant.
use Rattle.std.specs.Prelude.{ℕ, ◌≤◌, ◌<◌}
use Rattle.spec_demix.specs.declared.Sent.{Sent}
use Rattle.spec_demix.specs.declared.SentSide.{SentSide}
use Rattle.spec_demix.specs.declared.SentTops.{SentTops}
use Rattle.spec_demix.specs.declared.SentBed.{SentBed}

-- a place among n coded samples, and a factor of at most 32 dB
pub record IsSentWithin (n : ℕ) (sent : Sent) : Type 0 where
  pub place : sent.place < n
  pub factor : sent.factor ≤ 39810717055340

pub record AreSidesWithin (n : ℕ) (sent : SentSide) : Type 0 where
  pub two : IsSentWithin n sent.two
  pub three : IsSentWithin n sent.three
  pub five : IsSentWithin n sent.five
  pub surround : IsSentWithin n sent.surround
  pub side : IsSentWithin n sent.side
  pub rear : IsSentWithin n sent.rear

pub record AreTopsWithin (n : ℕ) (sent : SentTops) : Type 0 where
  pub three : IsSentWithin n sent.three
  pub two : IsSentWithin n sent.two
  pub four : IsSentWithin n sent.four
  pub back : IsSentWithin n sent.back

pub record AreWithin (n : ℕ) (sent : SentBed) : Type 0 where
  pub mono : IsSentWithin n sent.mono
  pub center : IsSentWithin n sent.center
  pub low : IsSentWithin n sent.low
  pub left : AreSidesWithin n sent.left
  pub right : AreSidesWithin n sent.right
  pub left_top : AreTopsWithin n sent.left_top
  pub right_top : AreTopsWithin n sent.right_top
