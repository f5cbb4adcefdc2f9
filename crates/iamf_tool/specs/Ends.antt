-- How a run of the program leaves its three ends.
use Rattle.std.specs.Prelude.{◌≡◌, ℕ, ◌+◌, ◌^◌, ◌≤◌, ◌⊎◌, List, [], ◌∷◌, ◌++◌, length, codes, Option, Some, None, Result, Ok, Err}
use Rattle.std.specs.Fmt.{decimal}
use Rattle.std.specs.Io.KnownBytes.{Appends, Consumes, Keeps, IsAtEnd}
use Rattle.iamf_io.specs.declared.traits.Failed.{Failed}
use Rattle.iamf_io.specs.Causes.{Rose}
use Rattle.iamf_io.specs.Whole.{AppendsFront, TakesCount}
use Rattle.iamf_tool.specs.declared.command.Command.{Command}
use Rattle.iamf_tool.specs.declared.status.Status.{Status}
use Rattle.iamf_tool.specs.declared.status.Status.TheVariants.{Done, Refused, Usage, Memory, ReadFault, WriteFault, TooLarge}
use Rattle.iamf_tool.specs.Status.{status_line}
use Rattle.iamf_tool.specs.Outcome.{Output, Refusal, Unplayable, Outcome}

-- what a source has left or a sink holds, where it tells, and its count of faults, before a call and after it
pub record Side : Type 0 where
  pub before : Option (List ℕ)
  pub after : Option (List ℕ)
  pub count_before : ℕ
  pub count_after : ℕ

abbrev pub side : {S : Type 0} → (S → Option (List ℕ)) → (S → ℕ) → S → S → Side
side told faults old new = record { before = told old; after = told new; count_before = faults old; count_after = faults new }

-- the source, the output and the notes of a run
pub record Ran : Type 0 where
  pub source : Side
  pub out : Side
  pub notes : Side

abbrev pub ran : Side → Side → Side → Ran
ran source out notes = record { source = source; out = out; notes = notes }

pub record IsUntouched (s : Side) : Type 0 where
  pub kept : Keeps s.before s.after
  pub same : s.count_after ≡ s.count_before

-- the text was written
pub record Wrote (s : Side) (text : List ℕ) : Type 0 where
  pub grown : Appends s.before s.after text
  pub same : s.count_after ≡ s.count_before

-- a front of the text was written, and then the sink failed
pub record WroteFront (s : Side) (text : List ℕ) : Type 0 where
  pub grown : AppendsFront s.before s.after text
  pub rose : Rose s.count_before s.count_after

-- how the writing of a text ended
abbrev pub Writes : Result (Unit {0}) Failed → List ℕ → Side → Type 0
Writes (Ok _) text s = Wrote s text
Writes (Err _) text s = WroteFront s text

-- the line was written, or a front of it where the sink failed
abbrev pub Noted : Side → List ℕ → Type 0
Noted s text = Wrote s text ⊎ WroteFront s text

-- `refused AT CODE`
abbrev pub refusal_line : ℕ → ℕ → List ℕ
refusal_line at code = codes "refused " ++ decimal at ++ 32 ∷ decimal code ++ 10 ∷ []

-- `unplayable CODE`
abbrev pub unplayable_line : ℕ → List ℕ
unplayable_line code = codes "unplayable " ++ decimal code ++ 10 ∷ []

-- ---- after the whole input was read

-- how the writing of an output ends
abbrev pub Delivers : Status → List ℕ → Side → Side → Type 0
Delivers Done output out notes = Wrote out output × IsUntouched notes
Delivers WriteFault output out notes = WroteFront out output × Noted notes (status_line WriteFault)
Delivers Refused output out notes = ⊥
Delivers Usage output out notes = ⊥
Delivers Memory output out notes = ⊥
Delivers ReadFault output out notes = ⊥
Delivers TooLarge output out notes = ⊥

-- how a refusal with this line ends
abbrev pub Refuses : Status → List ℕ → Side → Type 0
Refuses Refused line notes = Noted notes line
Refuses Memory line notes = Noted notes (status_line Memory)
Refuses Done line notes = ⊥
Refuses Usage line notes = ⊥
Refuses ReadFault line notes = ⊥
Refuses WriteFault line notes = ⊥
Refuses TooLarge line notes = ⊥

-- the output of the command stands on `out`
pub record IsDone (c : Command) (b : List ℕ) (out notes : Side) : Type 0 where
  pub output : List ℕ
  pub gives : Outcome c b (Output output)
  pub wrote : Wrote out output
  pub quiet : IsUntouched notes

-- the input is refused, and nothing is written
pub record IsRefused (c : Command) (b : List ℕ) (out notes : Side) : Type 0 where
  pub place : ℕ
  pub code : ℕ
  pub gives : Outcome c b (Refusal place code)
  pub untouched : IsUntouched out
  pub noted : Noted notes (refusal_line place code)

-- the mix is not played, and nothing is written
pub record IsUnplayed (c : Command) (b : List ℕ) (out notes : Side) : Type 0 where
  pub code : ℕ
  pub gives : Outcome c b (Unplayable code)
  pub untouched : IsUntouched out
  pub noted : Noted notes (unplayable_line code)

-- the input is refused, or its mix
abbrev pub IsTurnedDown : Command → List ℕ → Side → Side → Type 0
IsTurnedDown c b out notes = IsRefused c b out notes ⊎ IsUnplayed c b out notes

-- `out` failed while the output was written, or when it was flushed
pub record IsCutOff (c : Command) (b : List ℕ) (out notes : Side) : Type 0 where
  pub output : List ℕ
  pub gives : Outcome c b (Output output)
  pub wrote : WroteFront out output
  pub noted : Noted notes (status_line WriteFault)

-- nothing is written but the line of the status
pub record IsNoted (status : Status) (out notes : Side) : Type 0 where
  pub untouched : IsUntouched out
  pub noted : Noted notes (status_line status)

-- how the command ends on these bytes
abbrev pub Concludes : Status → Command → List ℕ → Side → Side → Type 0
Concludes Done c b out notes = IsDone c b out notes
Concludes Refused c b out notes = IsTurnedDown c b out notes
Concludes Memory c b out notes = IsNoted Memory out notes
Concludes WriteFault c b out notes = IsCutOff c b out notes
Concludes Usage c b out notes = ⊥
Concludes ReadFault c b out notes = ⊥
Concludes TooLarge c b out notes = ⊥

-- ---- with the reading of the input

-- The source gave bytes to its end without a fault, at most 2^30 of them: all that it had left, where it tells these. This
-- is so of the bytes that it gave.
pub record WasRead (source : Side) (P : List ℕ → Type 0) : Type 0 where
  pub bytes : List ℕ
  pub within : length bytes ≤ 2 ^ 30
  pub taken : Consumes source.before source.after bytes
  pub end : IsAtEnd source.after
  pub same : source.count_after ≡ source.count_before
  pub is : P bytes

-- the source failed
pub record ReadFailed (r : Ran) : Type 0 where
  pub rose : Rose r.source.count_before r.source.count_after
  pub noted : IsNoted ReadFault r.out r.notes

-- the source gave 2^30 + 1 bytes without a fault
pub record IsTooLarge (r : Ran) : Type 0 where
  pub taken : TakesCount r.source.before r.source.after (2 ^ 30 + 1)
  pub same : r.source.count_after ≡ r.source.count_before
  pub noted : IsNoted TooLarge r.out r.notes

-- there was no memory, while the input was read or after it
pub record RanOut (r : Ran) : Type 0 where
  pub same : r.source.count_after ≡ r.source.count_before
  pub noted : IsNoted Memory r.out r.notes

-- how a run on a command ends
abbrev pub Ends : Status → Command → Ran → Type 0
Ends Done c r = WasRead r.source (λ b. IsDone c b r.out r.notes)
Ends Refused c r = WasRead r.source (λ b. IsTurnedDown c b r.out r.notes)
Ends WriteFault c r = WasRead r.source (λ b. IsCutOff c b r.out r.notes)
Ends Memory c r = RanOut r
Ends ReadFault c r = ReadFailed r
Ends TooLarge c r = IsTooLarge r
Ends Usage c r = ⊥

-- how a run on words that are no command ends: nothing is read
pub record IsUsage (status : Status) (r : Ran) : Type 0 where
  pub status_is : status ≡ Usage
  pub unread : IsUntouched r.source
  pub noted : IsNoted Usage r.out r.notes

-- how a run on words that say this ends
abbrev pub Runs : Status → Option Command → Ran → Type 0
Runs status None r = IsUsage status r
Runs status (Some c) r = Ends status c r
