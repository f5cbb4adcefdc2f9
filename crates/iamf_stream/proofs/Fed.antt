-- A checker that is fed the pieces of some bytes, and what it tells at their end.
use Rattle.std.proofs.Common.{◌≡◌, ℕ, ◌+◌, ◌≤◌, inl, inr, List, ◌++◌, length, Result, Ok, Err, sym, subst, arith}
use Rattle.std.specs.Prelude.{OnOk, OnErr, alloc_error}
use Rattle.spec_values.specs.Value.{ObuValue}
use Rattle.spec_sequence.specs.Reading.{Reads}
use Rattle.iamf_report.specs.Lines.{Facts}
use Rattle.iamf_sequence.specs.declared.refusal.DecodeError.{DecodeError}
use Rattle.iamf_sequence.specs.declared.refusal.DecodeError.TheVariants.{Refused, Memory}
use Rattle.iamf_sequence.specs.Places.{IsRefused}
use Rattle.iamf_stream.specs.CheckerView.{CheckerValue, Stands, IsSpent, Feeds, Finishes}
use Rattle.iamf_stream.specs.Feeding.{Knows, Tells}

-- ---- one more piece

-- what feeding it answers and leaves
pub record IsFed (old new : CheckerValue) (result : Result (Unit {0}) DecodeError) (piece : List ℕ) : Type 0 where
  pub feeds : (stream : List ℕ) → Stands old stream → Feeds new result (stream ++ piece)
  pub more : OnOk result (new.fed ≡ old.fed + length piece)
  pub no_more : OnErr result (new.fed ≡ old.fed)
  pub spent : IsSpent old → (result ≡ Err (Memory alloc_error)) × (new ≡ old)

known : (new : CheckerValue) (result : Result (Unit {0}) DecodeError) (stream : List ℕ) → Feeds new result stream → Knows new stream
known new (Ok _) stream f = inl f.stands
known new (Err (Refused r)) stream f = inl f.stands
known new (Err (Memory e)) stream f = inr f

pub knows_more : (old new : CheckerValue) (result : Result (Unit {0}) DecodeError) (piece bytes : List ℕ) → IsFed old new result piece → Knows old bytes → Knows new (bytes ++ piece)
knows_more old new result piece bytes fed (inl stands) = known new result (bytes ++ piece) (fed.feeds bytes stands)
knows_more old new result piece bytes fed (inr spent) = inr (subst IsSpent (sym (fed.spent spent).1) spent)

pub fed_more : (old new n : ℕ) (result : Result (Unit {0}) DecodeError) → OnOk result (new ≡ old + n) → OnErr result (new ≡ old) → new ≤ old + n
fed_more old new n (Ok _) more none = omega (arith, more)
fed_more old new n (Err e) more none = omega (arith, none)

-- what is said of one call that fed a piece
pub record Feeding (old new : CheckerValue) (piece : List ℕ) : Type 0 where
  pub knows : (bytes : List ℕ) → Knows old bytes → Knows new (bytes ++ piece)
  pub fed : new.fed ≤ old.fed + length piece

-- ---- the end

-- what the end answers
pub record IsFinished (checker : CheckerValue) (result : Result Facts DecodeError) : Type 0 where
  pub finishes : (stream : List ℕ) → Stands checker stream → Finishes result stream
  pub spent : IsSpent checker → result ≡ Err (Memory alloc_error)

told : (result : Result Facts DecodeError) (bytes : List ℕ) → Finishes result bytes → Tells result bytes
told (Ok facts) bytes f = f
told (Err (Refused r)) bytes f = f
told (Err (Memory e)) bytes f = absurd f

pub tells : (checker : CheckerValue) (result : Result Facts DecodeError) (bytes : List ℕ) → IsFinished checker result → Knows checker bytes → Tells result bytes
tells checker result bytes f (inl stands) = told result bytes (f.finishes bytes stands)
tells checker result bytes f (inr spent) = rw (f.spent spent) tt

pub reads_told : (result : Result Facts DecodeError) (facts : Facts) (bytes : List ℕ) → result ≡ Ok facts → Tells result bytes → (s : List ObuValue) × Reads bytes s
reads_told result facts bytes is t = let h : Tells (Ok facts) bytes = rw is at t in (h.0, h.1)

pub refusal_told : (result : Result Facts DecodeError) (error : DecodeError) (bytes : List ℕ) → result ≡ Err error → Tells result bytes → IsRefused bytes error
refusal_told result error bytes is t = rw is at t
