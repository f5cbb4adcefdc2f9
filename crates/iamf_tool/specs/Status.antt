-- The exit status of each way to end, and what is noted of it.
use Rattle.std.specs.Prelude.{ℕ, List, [], ◌∷◌, ◌++◌, codes}
use Rattle.iamf_io.specs.declared.whole.ReadError.{ReadError}
use Rattle.iamf_io.specs.declared.whole.ReadError.TheVariants as failure
use Rattle.iamf_tool.specs.declared.status.Status.{Status}
use Rattle.iamf_tool.specs.declared.status.Status.TheVariants.{Done, Refused, Usage, Memory, ReadFault, WriteFault, TooLarge}

-- of an input that was not read
abbrev pub status_of : ReadError → Status
status_of failure.Failed = ReadFault
status_of failure.TooLarge = TooLarge
status_of (failure.Memory e) = Memory

abbrev pub status_number : Status → ℕ
status_number Done = 0
status_number Refused = 1
status_number Usage = 2
status_number Memory = 3
status_number ReadFault = 4
status_number WriteFault = 5
status_number TooLarge = 6

-- a text and the end of its line
abbrev pub ended : List ℕ → List ℕ
ended text = text ++ 10 ∷ []

-- The line of a status: none of an output, and of a refusal its own.
abbrev pub status_line : Status → List ℕ
status_line Done = []
status_line Refused = []
status_line Usage = ended (codes "usage: iamf_tool COMMAND < INPUT > OUTPUT")
status_line Memory = ended (codes "out of memory")
status_line ReadFault = ended (codes "read failed")
status_line WriteFault = ended (codes "write failed")
status_line TooLarge = ended (codes "input too large")
