-- What a kernel stands for: the layers of an element up to a target, which is the last of them; and what it keeps of them.
use Rattle.std.specs.Prelude.{ℕ, ◌≡◌, List, length, ◌-◌, ◌≤◌, ◌<◌}
use Rattle.spec_demix.specs.declared.DemixLayer.{DemixLayer}
use Rattle.spec_demix.specs.Sent.{IsLayers}
use Rattle.spec_demix.specs.Sizes.{AreModest}
use Rattle.mix_fixed.specs.declared.origins.Origins.{Origins}
use Rattle.mix_fixed.specs.Origins.{origins_of}
use Rattle.spec_demix.specs.declared.SentBed.{SentBed}
use Rattle.mix_fixed.specs.declared.scaled.ScaledBed.{ScaledBed}
use Rattle.mix_fixed.specs.Scaled.{scaled_bed}
use Rattle.mix_fixed.specs.declared.scaled.Most.{Most}
use Rattle.mix_fixed.specs.Quiet.{OfBed, IsBelow}

abbrev pub target_of : List DemixLayer → ℕ
target_of layers = length layers - 1

pub record IsKernel (count : ℕ) (layers : List DemixLayer) (origins : Origins) : Type 0 where
  pub some : 0 < count
  pub few : count ≤ 6
  pub all : length layers ≤ count
  pub chain : IsLayers layers (target_of layers)
  pub modest : AreModest layers (target_of layers)
  pub kept : origins ≡ origins_of layers (target_of layers)

-- what is sent, with its factors in units, and the largest of them
pub record IsPrepared (sent : SentBed) (scaled : ScaledBed) (most : Most) : Type 0 where
  pub scaled_is : scaled ≡ scaled_bed sent
  pub most_is : OfBed (IsBelow most) scaled
