-- What holds of the report.
use Rattle.std.specs.Prelude.{◌≡◌, ◌≢◌, ◌<◌, ℕ, List, All}
use Rattle.std.specs.List.{flat_map}
use Rattle.spec_values.specs.Value.{ObuValue}
use Rattle.spec_sequence.specs.Narrow.{HasNarrowProfile}
use Rattle.spec_report.specs.Report.{escaped, report}
use Rattle.spec_report.specs.Narrow.{narrow_report}

-- of a sequence of the Simple or the Base profile it is the same with the wide profile and without
abbrev pub NarrowReport : Type 0
NarrowReport = (s : List ObuValue) → HasNarrowProfile s → report s ≡ narrow_report s

-- an escaped text has no space, no end of a line and nothing else that is not printed
abbrev pub EscapedIsPlain : Type 0
EscapedIsPlain = (text : List ℕ) → All (λ byte. (32 < byte) × (byte ≢ 127)) (flat_map escaped text)

-- and no other text has the same
abbrev pub EscapedIsOne : Type 0
EscapedIsOne = (text other : List ℕ) → flat_map escaped text ≡ flat_map escaped other → text ≡ other
