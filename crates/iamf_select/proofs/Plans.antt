-- A plan is of exactly one rendition, which is played.
use Rattle.std.proofs.Common.{◌≡◌, sym, ◌∙◌, subst, refl, Some}
use Rattle.spec_sequence.specs.Reading.{values_of}
use Rattle.spec_play.specs.Mixes.{Rendition}
use Rattle.spec_play.specs.Laws.{IsPlayable}
use Rattle.spec_play.proofs.SelectedSequences.{selected_is_playable}
use Rattle.iamf_select.specs.PlanView.{PlanValue, IsSelected}

one_value : (r q : Rendition) → Some q ≡ Some r → q ≡ r
one_value r q e = cc

pub one_rendition : (p : PlanValue) (r q : Rendition) → IsSelected p r → IsSelected p q → q ≡ r
one_rendition p r q first second = one_value r q (sym second.heard_is ∙ first.heard_is)

pub plan_is_playable : (p : PlanValue) (r : Rendition) → IsSelected p r → IsPlayable r
plan_is_playable p r selected =
    let played =
    selected_is_playable p.sequence.bytes (values_of p.sequence.entries) p.mix p.target (record { entries = p.sequence.entries; values_are = refl; admitted = selected.read.admitted; whole = selected.read.whole }) selected.hearable
    selected.passes
    in
    let same : played.0 ≡ r = one_value r played.0 (sym played.1 ∙ selected.heard_is) in
    subst IsPlayable same played.2
