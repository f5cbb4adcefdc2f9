-- What contracts see of a player.
use Rattle.std.specs.Prelude.{◌≡◌, ℕ, ◌+◌}
use Rattle.spec_play.specs.Mixes.{Rendition}
use Rattle.iamf_select.specs.PlanView.{PlanValue, IsSelected}
use Rattle.iamf_play.specs.declared.reserved.Reserved.{Reserved}
use Rattle.iamf_play.specs.Reserving.{IsReserved, HasPlayed}

-- the plan, and how many of its units were played
pub record PlayerValue : Type 0 where
  pub plan : PlanValue
  pub played : ℕ

pub record IsPlayback (p : PlayerValue) (v : Reserved) : Type 0 where
  pub heard : Rendition
  pub selected : IsSelected p.plan heard
  pub reserved : IsReserved p.plan.sequence heard p.played v
  pub last : (u : ℕ) → p.played ≡ u + 1 → HasPlayed heard u v
