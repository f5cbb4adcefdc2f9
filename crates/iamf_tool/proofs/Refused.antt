-- The first fault of bytes is what each command that reads a sequence gives for them.
use Rattle.std.proofs.Common.{ℕ, List}
use Rattle.std.specs.Prelude.{Result, Ok, Err, IfOk}
use Rattle.spec_values.specs.Value.{ObuValue}
use Rattle.spec_play.specs.declared.target.Target.{Target}
use Rattle.iamf_sequence.specs.declared.refusal.DecodeError.{DecodeError}
use Rattle.iamf_sequence.specs.Places.{IsRefused}
use Rattle.iamf_tool.specs.declared.answer.Answer.{Answer}
use Rattle.iamf_tool.specs.declared.answer.Answer.TheVariants as answer
use Rattle.iamf_tool.specs.Answers.{view_answer, IsRefusalOf}
use Rattle.iamf_mux.specs.declared.demuxing.DemuxError.{DemuxError}
use Rattle.iamf_mux.specs.Demuxing.{IsNoBare}
use Rattle.iamf_tool.specs.Outcome.{SequenceGives, MuxGives, DemuxGives, PlayGives}

abbrev pub AnswersTo : DecodeError → Answer → Type 0
AnswersTo error a = (bytes : List ℕ) → IsRefused bytes error → IsRefusalOf bytes a

pub refusal_gives : (made : List ObuValue → List ℕ) (bytes : List ℕ) (a : Answer) → IsRefusalOf bytes a → SequenceGives made bytes (view_answer a)
refusal_gives made bytes (answer.Output output) is = absurd is
refusal_gives made bytes (answer.Refusal at code) is = is
refusal_gives made bytes (answer.Unplayable code) is = absurd is

refusal_plays : (mix : ℕ) (target : Target) (bytes : List ℕ) (a : Answer) → IsRefusalOf bytes a → PlayGives mix target bytes (view_answer a)
refusal_plays mix target bytes (answer.Output output) is = absurd is
refusal_plays mix target bytes (answer.Refusal at code) is = is
refusal_plays mix target bytes (answer.Unplayable code) is = absurd is

pub answered : {E : Type 0} (r : Result Answer E) (error : DecodeError) (made : List ObuValue → List ℕ) (bytes : List ℕ) → IfOk r (AnswersTo error) → IsRefused bytes error → IfOk r (λ a. SequenceGives made bytes (view_answer a))
answered (Ok a) error made bytes every is = refusal_gives made bytes a (every bytes is)
answered (Err e) error made bytes every is = tt

pub answered_to_play : {E : Type 0} (r : Result Answer E) (error : DecodeError) (mix : ℕ) (target : Target) (bytes : List ℕ) → IfOk r (AnswersTo error) → IsRefused bytes error
    → IfOk r (λ a. PlayGives mix target bytes (view_answer a))
answered_to_play (Ok a) error mix target bytes every is = refusal_plays mix target bytes a (every bytes is)
answered_to_play (Err e) error mix target bytes every is = tt

refusal_muxes : (bytes : List ℕ) (a : Answer) → IsRefusalOf bytes a → MuxGives bytes (view_answer a)
refusal_muxes bytes (answer.Output output) is = absurd is
refusal_muxes bytes (answer.Refusal at code) is = is
refusal_muxes bytes (answer.Unplayable code) is = absurd is

pub answered_to_mux : {E : Type 0} (r : Result Answer E) (error : DecodeError) (bytes : List ℕ) → IfOk r (AnswersTo error) → IsRefused bytes error → IfOk r (λ a. MuxGives bytes (view_answer a))
answered_to_mux (Ok a) error bytes every is = refusal_muxes bytes a (every bytes is)
answered_to_mux (Err e) error bytes every is = tt

-- and what a file gives that holds no sequence
pub answered_to_demux : {E : Type 0} (r : Result Answer E) (error : DemuxError) (f : List ℕ) → IfOk r (λ a. (g : List ℕ) → IsNoBare g error → DemuxGives g (view_answer a)) → IsNoBare f error → IfOk r (λ a. DemuxGives f (view_answer a))
answered_to_demux (Ok a) error f every is = every f is
answered_to_demux (Err e) error f every is = tt
