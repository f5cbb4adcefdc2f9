-- What checking the bytes that a source gives answers, and how the source is left.
use Rattle.std.specs.Prelude.{◌≡◌, ℕ, ◌+◌, ◌^◌, List, Result, Ok, Err}
use Rattle.iamf_io.specs.Causes.{Rose}
use Rattle.iamf_io.specs.Whole.{TakesAll, TakesCount}
use Rattle.iamf_io.specs.declared.whole.ReadError.{ReadError}
use Rattle.iamf_io.specs.declared.whole.ReadError.TheVariants.{Failed, TooLarge, Memory}
use Rattle.iamf_report.specs.Lines.{Facts}
use Rattle.iamf_sequence.specs.declared.refusal.DecodeError.{DecodeError}
use Rattle.iamf_stream.specs.Feeding.{Tells}
use Rattle.iamf_tool.specs.Ends.{Side}

-- all bytes that were left were taken, and are so
pub record ChecksAll (answer : Result Facts DecodeError) (source : Side) : Type 0 where
  pub bytes : List ℕ
  pub all : TakesAll source.before source.after bytes (2 ^ 30)
  pub same : source.count_after ≡ source.count_before
  pub tells : Tells answer bytes

-- the source gave 2^30 + 1 bytes without a fault
pub record GaveTooMany (source : Side) : Type 0 where
  pub taken : TakesCount source.before source.after (2 ^ 30 + 1)
  pub same : source.count_after ≡ source.count_before

abbrev pub LeavesOff : ReadError → Side → Type 0
LeavesOff Failed source = Rose source.count_before source.count_after
LeavesOff TooLarge source = GaveTooMany source
LeavesOff (Memory e) source = source.count_after ≡ source.count_before

abbrev pub Checks : Result (Result Facts DecodeError) ReadError → Side → Type 0
Checks (Ok answer) source = ChecksAll answer source
Checks (Err error) source = LeavesOff error source
