-- What reading gives, in the words of payloads.
use Rattle.std.proofs.Common.{ℕ, List, Result, Ok, Err}
use Rattle.std.specs.Prelude.{IfOk}
use Rattle.spec_bits.specs.declared.FieldFault.{FieldFault}
use Rattle.spec_bits.specs.Bits.{all_bits}
use Rattle.spec_syntax.specs.Syntax.{Syntax}
use Rattle.spec_syntax.specs.Reading.{read, start_of}
use Rattle.spec_syntax.specs.Payload.{FieldValue, IsValid}
use Rattle.spec_syntax.specs.Laws.{IsSyntaxOf}
use Rattle.spec_syntax.proofs.PayloadLaws.{payload_read}
use Rattle.obu_codec_config.specs.Payloads.{AnswersPayload, GivesPayload, AnswersEntry, GivesEntry}

pub answers_payload : {V W F : Type 0} {wrap : FieldFault → F} {s : Syntax F W} {fields : W → List FieldValue} (law : IsSyntaxOf wrap s fields) (view : V → W) (tail : V → List ℕ) (r : Result V F) (p : List ℕ)
    → GivesPayload view tail r (read wrap s (start_of p)) → AnswersPayload wrap s fields view tail r p
answers_payload law view tail (Ok v) p h = payload_read law p (view v) h.0 (all_bits (tail v)) h.1 h.2
answers_payload law view tail (Err f) p h = law.reading.fails p f h

pub answers_entry : {V W F : Type 0} {wrap : FieldFault → F} {s : Syntax F W} {fields : W → List FieldValue} (law : IsSyntaxOf wrap s fields) (StandsFor : V → W → Type 0) (tail : V → List ℕ) (r : Result V F) (p : List ℕ)
    → GivesEntry StandsFor tail r (read wrap s (start_of p)) → AnswersEntry wrap s fields StandsFor tail r p
answers_entry law StandsFor tail (Ok v) p h = (h.0, h.2, payload_read law p h.0 h.1 (all_bits (tail v)) h.3 h.4)
answers_entry law StandsFor tail (Err f) p h = law.reading.fails p f h

-- what is answered is valid

pub payload_valid : {V W F : Type 0} {wrap : FieldFault → F} {s : Syntax F W} {fields : W → List FieldValue} (law : IsSyntaxOf wrap s fields) (view : V → W) (tail : V → List ℕ) (r : Result V F) (p : List ℕ)
    → AnswersPayload wrap s fields view tail r p → IfOk r (λ v. IsValid s fields (view v))
payload_valid {fields = fields} law view tail (Ok v) p h = law.valid (fields (view v)) (view v) h.spelling h.stands
payload_valid law view tail (Err f) p h = tt

pub entry_valid : {V W F : Type 0} {wrap : FieldFault → F} {s : Syntax F W} {fields : W → List FieldValue} (law : IsSyntaxOf wrap s fields) (StandsFor : V → W → Type 0) (tail : V → List ℕ) (r : Result V F) (p : List ℕ)
    → AnswersEntry wrap s fields StandsFor tail r p → IfOk r (λ v. (w : W) × StandsFor v w × IsValid s fields w)
entry_valid {fields = fields} law StandsFor tail (Ok v) p h = (h.0, h.1, law.valid (fields h.0) h.0 h.2.spelling h.2.stands)
entry_valid law StandsFor tail (Err f) p h = tt
