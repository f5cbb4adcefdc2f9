-- The row of a unit's gains, once a block or a unit of blocks is taken.
use Rattle.std.proofs.Common.{◌≡◌, ℕ, refl, sym, ap, subst, ◌∙◌, Bool, true, false, List, get_or, Some}
use Rattle.std.specs.Prelude.{slice_get}
use Rattle.std.proofs.lemmas.Option.{get_or_from_slice_get}
use Rattle.spec_descriptors.specs.MixGain.{MixGainFields}
use Rattle.spec_sequence.specs.Parts.{UnitValue}
use Rattle.spec_play.specs.Mixes.{Rendition, unit_of, no_unit}
use Rattle.iamf_sequence.specs.declared.unit.Unit as temporal
use Rattle.iamf_sequence.specs.UnitView.{IsUnit}
use Rattle.iamf_mixing.specs.declared.track.GainTrack.{GainTrack}
use Rattle.iamf_mixing.specs.Tracks.{IsOn, IsFilled, HasGains}
use Rattle.iamf_play.specs.Rows.{Took}

pub took : (b : Bool) (r : Rendition) (gain : MixGainFields) (u : ℕ) (row : List ℕ) (track : GainTrack) → (b ≡ true → IsFilled r gain u row track) → (b ≡ false → IsOn r gain track × HasGains r gain u row) → Took b r gain u row track
took true r gain u row track passed complete = passed refl
took false r gain u row track passed complete = complete refl

pub took_true : (b : Bool) (r : Rendition) (gain : MixGainFields) (u : ℕ) (row : List ℕ) (track : GainTrack) → b ≡ true → Took b r gain u row track → IsFilled r gain u row track
took_true true r gain u row track e t = t
took_true false r gain u row track e t = absurd (cc)

pub took_false : (b : Bool) (r : Rendition) (gain : MixGainFields) (u : ℕ) (row : List ℕ) (track : GainTrack) → b ≡ false → Took b r gain u row track → IsOn r gain track × HasGains r gain u row
took_false true r gain u row track e t = absurd (cc)
took_false false r gain u row track e t = t

-- the code's unit is that of a rendition of the sequence
pub unit_there : (r : Rendition) (units : List UnitValue) (v : ℕ) (x : temporal.Unit) → r.units ≡ units → ((w : UnitValue) × (slice_get units v ≡ Some w) × IsUnit x w) → IsUnit x (unit_of r v)
unit_there r units v x same there =
    let is : unit_of r v ≡ there.0 = ap (λ (us : List UnitValue). get_or us v no_unit) same ∙ get_or_from_slice_get units v there.0 no_unit there.1 in
    subst (λ w. IsUnit x w) (sym is) there.2
