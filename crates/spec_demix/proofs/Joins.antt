-- What ties the downmixes of one layout to one another.
use Rattle.std.specs.Prelude.{ℕ, ◌*◌, ◌≡◌, ◌≤◌, ℤ, pos, ◌+ℤ◌, ◌*ℤ◌}
use Rattle.spec_demix.specs.declared.Kind.{Kind}
use Rattle.spec_demix.specs.declared.Side.{Side}
use Rattle.spec_demix.specs.declared.Tops.{Tops}
use Rattle.spec_gains.proofs.ModeLemmas.{Row, alpha_of, beta_of, gamma_of, delta_of}

-- one side of the downmixes to the kinds up to this one
pub record IsJoined (kind : ℕ) (mode : Row) (center : ℤ) (v : Side) : Type 0 where
  pub two : 3 ≤ kind → pos 1000 *ℤ v.two ≡ pos 1000 *ℤ v.three +ℤ pos 707 *ℤ center
  pub three : 5 ≤ kind → pos 1000 *ℤ v.three ≡ pos 1000 *ℤ v.five +ℤ pos (delta_of mode) *ℤ v.surround
  pub surround : 7 ≤ kind → pos 1000 *ℤ v.surround ≡ pos (alpha_of mode) *ℤ v.side +ℤ pos (beta_of mode) *ℤ v.rear

pub record IsTopJoined (kind : Kind) (mode : Row) (w : ℕ) (surround : ℤ) (v : Tops) : Type 0 where
  pub three : 5 ≤ kind.surround → pos 10000000 *ℤ v.three ≡ pos 10000000 *ℤ v.two +ℤ pos (w * delta_of mode) *ℤ surround
  pub two : 4 ≤ kind.height → pos 1000 *ℤ v.two ≡ pos 1000 *ℤ v.four +ℤ pos (gamma_of mode) *ℤ v.back
