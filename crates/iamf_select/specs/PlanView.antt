-- What a plan is for.
use Rattle.std.specs.Prelude.{◌≡◌, ℕ, Some, None}
use Rattle.spec_sequence.specs.Reading.{values_of}
use Rattle.spec_play.specs.declared.target.Target.{Target}
use Rattle.spec_play.specs.Mixes.{Rendition, rendition_of}
use Rattle.spec_play.specs.Selection.{play_fault}
use Rattle.spec_play.specs.Laws.{IsHearable}
use Rattle.iamf_sequence.specs.SequenceValue.{IsRead, SequenceValue}

-- the sequence, the id of the mix, and what it is played for
pub record PlanValue : Type 0 where
  pub sequence : SequenceValue
  pub mix : ℕ
  pub target : Target

-- the selection passes the mix of a sequence, and this is what is heard of it
pub record IsSelected (p : PlanValue) (r : Rendition) : Type 0 where
  pub read : IsRead p.sequence.bytes p.sequence.entries
  pub hearable : IsHearable p.target
  pub passes : play_fault (values_of p.sequence.entries) p.mix p.target ≡ None
  pub heard_is : rendition_of (values_of p.sequence.entries) p.mix p.target ≡ Some r
