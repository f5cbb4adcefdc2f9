-- What several calls take from a source, and what they put on a sink.
use Rattle.std.specs.Prelude.{◌≡◌, ℕ, ◌<◌, ◌≤◌, List, length, take, Result, Ok, Err, Option, Some, None}
use Rattle.std.specs.Global.{Vec}
use Rattle.std.specs.Io.KnownBytes.{Appends, Consumes, IsAtEnd}
use Rattle.iamf_io.specs.Causes.{Rose}
use Rattle.iamf_io.specs.declared.whole.ReadError.{ReadError}
use Rattle.iamf_io.specs.declared.whole.ReadError.TheVariants.{Failed, TooLarge, Memory}

-- the bytes are all that was left, and no more than the limit
pub record TakesAll (old new : Option (List ℕ)) (bytes : List ℕ) (limit : ℕ) : Type 0 where
  pub within : length bytes ≤ limit
  pub taken : Consumes old new bytes
  pub end : IsAtEnd new

-- exactly so many of the bytes that were left were taken
pub record TakesCount (old new : Option (List ℕ)) (count : ℕ) : Type 0 where
  pub bytes : List ℕ
  pub counted : length bytes ≡ count
  pub taken : Consumes old new bytes

-- at most so many of the bytes that were left were taken
pub record TakesAtMost (old new : Option (List ℕ)) (most : ℕ) : Type 0 where
  pub bytes : List ℕ
  pub within : length bytes ≤ most
  pub taken : Consumes old new bytes

-- a front of the bytes was appended
pub record AppendsFront (old new : Option (List ℕ)) (bytes : List ℕ) : Type 0 where
  pub count : ℕ
  pub within : count ≤ length bytes
  pub front : Appends old new (take count bytes)

-- the source tells its bytes, and they are no more than the limit
abbrev pub TellsWithin : Option (List ℕ) → ℕ → Type 0
TellsWithin None limit = ⊥
TellsWithin (Some bytes) limit = length bytes ≤ limit

-- the source tells its bytes, and they are more than the limit
abbrev pub TellsMore : Option (List ℕ) → ℕ → Type 0
TellsMore None limit = ⊥
TellsMore (Some bytes) limit = limit < length bytes

-- the bytes, or want of memory
abbrev pub IsOkOrMemory : Result (Vec ℕ) ReadError → Type 0
IsOkOrMemory (Ok bytes) = Unit {0}
IsOkOrMemory (Err Failed) = ⊥
IsOkOrMemory (Err TooLarge) = ⊥
IsOkOrMemory (Err (Memory e)) = Unit {0}

-- too large, or want of memory
abbrev pub IsTooLargeOrMemory : Result (Vec ℕ) ReadError → Type 0
IsTooLargeOrMemory (Ok bytes) = ⊥
IsTooLargeOrMemory (Err Failed) = ⊥
IsTooLargeOrMemory (Err TooLarge) = Unit {0}
IsTooLargeOrMemory (Err (Memory e)) = Unit {0}

-- a fault is answered only where the count of the source rose; any other answer leaves it as it was
abbrev pub ReadCause : ℕ → ℕ → Result (Vec ℕ) ReadError → Type 0
ReadCause before now (Ok bytes) = now ≡ before
ReadCause before now (Err Failed) = Rose before now
ReadCause before now (Err TooLarge) = now ≡ before
ReadCause before now (Err (Memory e)) = now ≡ before
