-- How a check ends, by what the bytes of the source are and how it was left.
use Rattle.std.proofs.Common.{◌≡◌, ℕ, List, Result, Ok, Err, sym, subst}
use Rattle.std.specs.Prelude.{IfOk}
use Rattle.spec_report.specs.Report.{report}
use Rattle.iamf_io.specs.declared.whole.ReadError.{ReadError}
use Rattle.iamf_io.specs.declared.whole.ReadError.TheVariants as failure
use Rattle.iamf_report.specs.Lines.{Facts}
use Rattle.iamf_sequence.specs.declared.refusal.DecodeError.{DecodeError}
use Rattle.iamf_tool.specs.declared.answer.Answer.{Answer}
use Rattle.iamf_tool.specs.declared.command.Command.{Command}
use Rattle.iamf_tool.specs.declared.status.Status.{Status}
use Rattle.iamf_tool.specs.Answers.{view_answer}
use Rattle.iamf_tool.specs.Outcome.{SequenceGives}
use Rattle.iamf_tool.specs.Status.{status_of, status_line}
use Rattle.iamf_tool.specs.Ends.{Ran, IsUntouched, Noted, Ends}
use Rattle.iamf_stream.specs.Feeding.{Tells}
use Rattle.iamf_tool.specs.Checks.{LeavesOff}
use Rattle.iamf_tool.proofs.Refused.{AnswersTo, refusal_gives}

pub reported : {E : Type 0} (r : Result Answer E) (answer : Result Facts DecodeError) (bytes : List ℕ)
    → IfOk r (λ a. (b : List ℕ) → Tells answer b → SequenceGives report b (view_answer a)) → Tells answer bytes → IfOk r (λ a. SequenceGives report bytes (view_answer a))
reported (Ok a) answer bytes every tells = every bytes tells
reported (Err e) answer bytes every tells = tt

pub refused : {E : Type 0} (r : Result Answer E) (answer : Result Facts DecodeError) (error : DecodeError) → answer ≡ Err error → IfOk r (AnswersTo error)
    → IfOk r (λ a. (bytes : List ℕ) → Tells answer bytes → SequenceGives report bytes (view_answer a))
refused (Ok a) answer error is every = λ bytes tells. refusal_gives report bytes a (every bytes (rw is at tells))
refused (Err e) answer error is every = tt

ended : (error : ReadError) (c : Command) (r : Ran) → LeavesOff error r.source → IsUntouched r.out → Noted r.notes (status_line (status_of error)) → Ends (status_of error) c r
ended failure.Failed c r left untouched noted = record { rose = left; noted = record { untouched = untouched; noted = noted } }
ended failure.TooLarge c r left untouched noted = record { taken = left.taken; same = left.same; noted = record { untouched = untouched; noted = noted } }
ended (failure.Memory e) c r left untouched noted = record { same = left; noted = record { untouched = untouched; noted = noted } }

pub left_off : (status : Status) (error : ReadError) (c : Command) (r : Ran) → status ≡ status_of error → LeavesOff error r.source → IsUntouched r.out → Noted r.notes (status_line (status_of error)) → Ends status c r
left_off status error c r is left untouched noted = subst (λ (s : Status). Ends s c r) (sym is) (ended error c r left untouched noted)
