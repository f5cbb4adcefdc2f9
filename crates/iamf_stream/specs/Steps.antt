-- What the steps over the bytes of a stream answer, and what they leave.
use Rattle.std.specs.Prelude.{◌≡◌, ℕ, ◌+◌, ◌<◌, ◌≤◌, List, [], ◌++◌, length, take, drop, Result, Ok, Err}
use Rattle.spec_values.specs.Value.{ObuValue}
use Rattle.spec_sequence.specs.Reading.{Reads, Refuses}
use Rattle.iamf_report.specs.Lines.{Facts, facts_of}
use Rattle.iamf_admission.specs.AdmissionView.{AdmissionValue}
use Rattle.spec_streams.specs.Settled.{Settled}
use Rattle.iamf_stream.specs.declared.open.Open.{Open}
use Rattle.iamf_stream.specs.declared.walk.Step.{Step}
use Rattle.iamf_stream.specs.declared.walk.Step.TheVariants as step
use Rattle.iamf_stream.specs.declared.walk.Walked.{Walked}
use Rattle.iamf_sequence.specs.declared.refusal.DecodeError.{DecodeError}
use Rattle.iamf_sequence.specs.declared.refusal.DecodeError.TheVariants.{Refused, Memory}
use Rattle.iamf_stream.specs.Waiting.{IsWaiting}
use Rattle.iamf_stream.specs.Standing.{Passed, Stands}

-- the refusal of the stream is settled, unless memory ran out
abbrev pub Fails : DecodeError → List ℕ → Type 0
Fails (Refused r) stream = Settled stream r.at r.fault
Fails (Memory e) stream = Unit {0}

-- an OBU at the front of the rest was admitted, or is part of one
pub record Admits (new : AdmissionValue) (count place : ℕ) (rest stream : List ℕ) : Type 0 where
  pub some : 0 < count
  pub within : count ≤ length rest
  pub passed : Passed new (place + count) (drop count rest) stream

pub record Waits (new : AdmissionValue) (wanted place : ℕ) (rest stream : List ℕ) : Type 0 where
  pub waits : IsWaiting rest wanted
  pub passed : Passed new place rest stream

abbrev pub Steps : AdmissionValue → Result Step DecodeError → ℕ → List ℕ → List ℕ → Type 0
Steps new (Ok (step.Admitted count)) place rest stream = Admits new count place rest stream
Steps new (Ok (step.Partial wanted)) place rest stream = Waits new wanted place rest stream
Steps new (Err error) place rest stream = Fails error stream

-- all whole OBUs at the front of the rest were admitted, and then comes part of one
pub record WalksOver (new : AdmissionValue) (walked : Walked) (place : ℕ) (rest stream : List ℕ) : Type 0 where
  pub within : walked.admitted ≤ length rest
  pub left : Waits new walked.wanted (place + walked.admitted) (drop walked.admitted rest) stream

abbrev pub Walks : AdmissionValue → Result Walked DecodeError → ℕ → List ℕ → List ℕ → Type 0
Walks new (Ok walked) place rest stream = WalksOver new walked place rest stream
Walks new (Err error) place rest stream = Fails error stream

-- ---- with the bytes that wait

abbrev pub Goes : Open → Result (Unit {0}) DecodeError → List ℕ → Type 0
Goes new (Ok _) stream = Stands new stream
Goes new (Err error) stream = Fails error stream

-- the first bytes of the piece were taken
pub record Takes (new : Open) (count : ℕ) (piece stream : List ℕ) : Type 0 where
  pub within : count ≤ length piece
  pub stands : Stands new (stream ++ take count piece)

pub record TakesSome (new : Open) (count : ℕ) (piece stream : List ℕ) : Type 0 where
  pub some : 0 < count
  pub takes : Takes new count piece stream

abbrev pub Fills : Open → Result ℕ DecodeError → List ℕ → List ℕ → Type 0
Fills new (Ok count) piece stream = TakesSome new count piece stream
Fills new (Err error) piece stream = Fails error (stream ++ piece)

-- no bytes wait where not all of the piece was taken
pub record TakesAll (new : Open) (count : ℕ) (piece stream : List ℕ) : Type 0 where
  pub takes : Takes new count piece stream
  pub none : count < length piece → new.waiting.items ≡ []

abbrev pub Completes : Open → Result ℕ DecodeError → List ℕ → List ℕ → Type 0
Completes new (Ok count) piece stream = TakesAll new count piece stream
Completes new (Err error) piece stream = Fails error (stream ++ piece)

-- ---- the end

-- the stream is a sequence, and this is what the report says of it; or this is its refusal
abbrev pub Ends : Result Facts DecodeError → List ℕ → Type 0
Ends (Ok facts) stream = (s : List ObuValue) × Reads stream s × (facts ≡ facts_of s)
Ends (Err (Refused r)) stream = Refuses stream r.at r.fault
Ends (Err (Memory e)) stream = ⊥
