-- What contracts see of a checker, and what it stands for.
use Rattle.std.specs.Prelude.{◌≡◌, ℕ, List, [], length, Result, Ok, Err}
use Rattle.spec_values.specs.declared.fault.Fault.{Fault}
use Rattle.spec_streams.specs.Settled.{Settled}
use Rattle.iamf_report.specs.Lines.{Facts}
use Rattle.iamf_stream.specs.declared.checker.Stage.{Stage}
use Rattle.iamf_stream.specs.declared.checker.Stage.TheVariants as stage
use Rattle.iamf_sequence.specs.declared.refusal.Refusal.{Refusal}
use Rattle.iamf_sequence.specs.declared.refusal.DecodeError.{DecodeError}
use Rattle.iamf_sequence.specs.declared.refusal.DecodeError.TheVariants.{Refused, Memory}
use Rattle.iamf_stream.specs.Standing.{Stands as OpenStands}
use Rattle.iamf_stream.specs.Steps.{Ends}

-- how many bytes were fed, and what is kept of them
pub record CheckerValue : Type 0 where
  pub fed : ℕ
  pub stage : Stage

-- it stands for these bytes, which have so many: it keeps what is to be known of them, or they have its refusal
abbrev pub StageStands : Stage → ℕ → List ℕ → Type 0
StageStands (stage.Open o) fed stream = OpenStands o stream × (fed ≡ length stream)
StageStands (stage.Refused r) fed stream = Settled stream r.at r.fault
StageStands stage.Spent fed stream = ⊥

abbrev pub Stands : CheckerValue → List ℕ → Type 0
Stands c stream = StageStands c.stage c.fed stream

abbrev pub IsRefused : CheckerValue → Refusal → Type 0
IsRefused c r = c.stage ≡ stage.Refused r

abbrev pub IsSpent : CheckerValue → Type 0
IsSpent c = c.stage ≡ stage.Spent

abbrev pub waiting_in : Stage → List ℕ
waiting_in (stage.Open o) = o.waiting.items
waiting_in (stage.Refused r) = []
waiting_in stage.Spent = []

-- the bytes that wait
abbrev pub waiting_of : CheckerValue → List ℕ
waiting_of c = waiting_in c.stage

-- as long as nothing is refused, and memory was found, it stands for some bytes
abbrev pub IsSound : ℕ → Stage → Type 0
IsSound fed (stage.Open o) = (stream : List ℕ) × OpenStands o stream × (fed ≡ length stream)
IsSound fed (stage.Refused r) = Unit {0}
IsSound fed stage.Spent = Unit {0}

-- ---- what feeding answers, where the stream is this with the piece

-- no refusal of it is settled
abbrev pub IsUnsettled : List ℕ → Type 0
IsUnsettled stream = (at : ℕ) (f : Fault) → Settled stream at f → ⊥

pub record GoesOn (new : CheckerValue) (stream : List ℕ) : Type 0 where
  pub stands : Stands new stream
  pub unsettled : IsUnsettled stream

pub record Refuses (new : CheckerValue) (r : Refusal) (stream : List ℕ) : Type 0 where
  pub settled : Settled stream r.at r.fault
  pub stands : Stands new stream
  pub stays : IsRefused new r

abbrev pub Feeds : CheckerValue → Result (Unit {0}) DecodeError → List ℕ → Type 0
Feeds new (Ok _) stream = GoesOn new stream
Feeds new (Err (Refused r)) stream = Refuses new r stream
Feeds new (Err (Memory e)) stream = IsSpent new

-- what the end answers
abbrev pub Finishes : Result Facts DecodeError → List ℕ → Type 0
Finishes result stream = Ends result stream
