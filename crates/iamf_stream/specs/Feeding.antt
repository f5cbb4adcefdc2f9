-- What is known of a checker that was fed, and what it tells at its end.
use Rattle.std.specs.Prelude.{◌≡◌, ℕ, List, ◌⊎◌, Result, Ok, Err}
use Rattle.spec_values.specs.Value.{ObuValue}
use Rattle.spec_sequence.specs.Reading.{Reads}
use Rattle.iamf_report.specs.Lines.{Facts, facts_of}
use Rattle.iamf_sequence.specs.declared.refusal.DecodeError.{DecodeError}
use Rattle.iamf_sequence.specs.Places.{IsRefused}
use Rattle.iamf_stream.specs.CheckerView.{CheckerValue, Stands, IsSpent}

-- it stands for the bytes, or memory ran out
abbrev pub Knows : CheckerValue → List ℕ → Type 0
Knows c bytes = Stands c bytes ⊎ IsSpent c

-- the bytes are a sequence of which the report says this, or this is their refusal, unless memory ran out
abbrev pub Tells : Result Facts DecodeError → List ℕ → Type 0
Tells (Ok facts) bytes = (s : List ObuValue) × Reads bytes s × (facts ≡ facts_of s)
Tells (Err error) bytes = IsRefused bytes error
