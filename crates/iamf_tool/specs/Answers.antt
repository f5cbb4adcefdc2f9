-- An answer as what a command gives.
use Rattle.std.specs.Prelude.{ℕ, List}
use Rattle.iamf_tool.specs.Outcome.{Given, Output, Refusal, Unplayable, IsFaultOf}
use Rattle.iamf_tool.specs.declared.answer.Answer.{Answer}
use Rattle.iamf_tool.specs.declared.answer.Answer.TheVariants as answer

abbrev pub view_answer : Answer → Given
view_answer (answer.Output bytes) = Output bytes.items
view_answer (answer.Refusal at code) = Refusal at code
view_answer (answer.Unplayable code) = Unplayable code

-- the answer is the first fault of the bytes
abbrev pub IsRefusalOf : List ℕ → Answer → Type 0
IsRefusalOf bytes (answer.Output output) = ⊥
IsRefusalOf bytes (answer.Refusal at code) = IsFaultOf bytes at code
IsRefusalOf bytes (answer.Unplayable code) = ⊥
