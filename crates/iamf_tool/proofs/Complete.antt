-- A run that did not fail ends as the bytes say.
use Rattle.std.proofs.Common.{◌≡◌, ◌⊎◌, true, ℕ, ◌+◌, ◌^◌, ◌≤◌, ◌++◌, inl, inr, List, length, Option, Some, None, refl, sym, subst, arith, ap, ◌∙◌, append-nil, length-append}
use Rattle.std.specs.Prelude.{IfSome}
use Rattle.std.specs.Io.KnownBytes.{Consumes, IsAtEnd}
use Rattle.iamf_io.specs.Whole.{TakesCount}
use Rattle.spec_obu.proofs.OneOutcome.{excluded}
use Rattle.spec_sequence.proofs.OneAnswer.{reads_is_not_refused, one_reading}
use Rattle.spec_values.specs.declared.fault.Fault.{Fault}
use Rattle.spec_values.specs.Code.{code_of}
use Rattle.spec_values.specs.Value.{ObuValue}
use Rattle.spec_sequence.specs.Reading.{Reads, Refuses}
use Rattle.spec_boxes.specs.Laws.{BoxRefuses}
use Rattle.spec_boxes.proofs.Answer.{one_answer as box_answer}
use Rattle.spec_bodies.specs.SequenceFile.{values_of, IsFileOf, IsBareOf}
use Rattle.spec_bodies.proofs.Sequences.{sequence_reads}
use Rattle.spec_bodies.proofs.BodyLaws.{one_bare}
use Rattle.spec_play.specs.declared.target.Target.{Target}
use Rattle.spec_play.specs.declared.fault.PlayFault.{PlayFault}
use Rattle.spec_play.specs.Selection.{play_fault}
use Rattle.iamf_tool.specs.declared.command.Conversion.{Conversion}
use Rattle.iamf_tool.specs.declared.command.Conversion.TheVariants as conversion
use Rattle.iamf_tool.specs.declared.command.Command.{Command}
use Rattle.iamf_tool.specs.declared.command.Command.TheVariants as command
use Rattle.iamf_tool.specs.declared.status.Status.{Status}
use Rattle.iamf_tool.specs.declared.status.Status.TheVariants.{Done, Refused, Usage, Memory, ReadFault, WriteFault, TooLarge}
use Rattle.iamf_tool.specs.Outcome.{Output, Refusal, Unplayable, IsHeard, Converts, Outcome}
use Rattle.iamf_tool.specs.Ends.{Side, Ran, IsDone, IsRefused, IsTurnedDown, IsCutOff, WasRead, Ends}
use Rattle.iamf_tool.specs.Complete.{IsToPlay, CompletesOn, Completes}

-- bytes that have a file are not refused
no_file : (b output : List ℕ) (place : ℕ) (fault : Fault) → IsFileOf b output → Refuses b place fault → ⊥
no_file b output place fault is refuses =
    reads_is_not_refused b (values_of is.obus) place fault (subst (λ (bytes : List ℕ). Reads bytes (values_of is.obus)) (sym is.bytes_are) (sequence_reads is.obus is.are)) refuses

-- no rule on boxes fails of a file with a bare sequence, and that is one
no_bare : (f output : List ℕ) (place code : ℕ) → IsBareOf f output → (s : List ObuValue) → Reads output s → BoxRefuses f place code ⊎ ((bare : List ℕ) × IsBareOf f bare × (fault : Fault) × Refuses bare place fault × (code ≡ code_of fault)) → ⊥
no_bare f output place code is s reads (inl refuses) = (box_answer true f).exclusive is.config is.samples place code is.holds refuses
no_bare f output place code is s reads (inr r) =
    reads_is_not_refused output s place r.2 reads (subst (λ (bytes : List ℕ). Refuses bytes place r.2) (one_bare f r.0 output r.1 is) r.3)

-- no command gives both an output and a refusal
one_kind : (c : Command) (b output : List ℕ) (place code : ℕ) → Outcome c b (Output output) → Outcome c b (Refusal place code) → ⊥
one_kind command.Check b output place code reads refuses = reads_is_not_refused b reads.0 place refuses.0 reads.1 refuses.1
one_kind (command.Convert conversion.List) b output place code lists refuses = excluded 0 b output place refuses.0 lists refuses.1
one_kind (command.Convert conversion.Canon) b output place code reads refuses = reads_is_not_refused b reads.0 place refuses.0 reads.1 refuses.1
one_kind (command.Convert conversion.Mux) b output place code is refuses = no_file b output place refuses.0 is refuses.1
one_kind (command.Convert conversion.Demux) b output place code gives refuses = no_bare b output place code gives.0 gives.1 gives.2 refuses
one_kind (command.Play mix target) b output place code plays refuses = reads_is_not_refused b plays.0 place refuses.0 plays.1 refuses.1

-- the selection passes one mix of bytes, or has a fault of it
passes_or_not : (b : List ℕ) (mix : ℕ) (target : Target) (code : ℕ) → IsHeard mix target b → Outcome (command.Play mix target) b (Unplayable code) → ⊥
passes_or_not b mix target code heard faulty =
    let same : heard.0 ≡ faulty.0 = one_reading b heard.0 faulty.0 heard.1 faulty.1 in
    let passed : play_fault faulty.0 mix target ≡ None = subst (λ (s : List ObuValue). play_fault s mix target ≡ None) same heard.2 in
    one_answer (play_fault faulty.0 mix target) faulty.2 passed faulty.3 where
      one_answer : (o : Option PlayFault) (fault : PlayFault) → o ≡ None → o ≡ Some fault → ⊥
      one_answer o fault none some = cc

converted_is_played : (c : Conversion) (b : List ℕ) (code : ℕ) → Converts c b (Unplayable code) → ⊥
converted_is_played conversion.List b code faulty = faulty
converted_is_played conversion.Canon b code faulty = faulty
converted_is_played conversion.Mux b code faulty = faulty
converted_is_played conversion.Demux b code faulty = faulty

-- no command gives both an output and the number of a rule of the selection
played_or_not : (c : Command) (b output : List ℕ) (code : ℕ) → Outcome c b (Output output) → Outcome c b (Unplayable code) → ⊥
played_or_not command.Check b output code reads faulty = faulty
played_or_not (command.Convert c) b output code made faulty = converted_is_played c b code faulty
played_or_not (command.Play mix target) b output code plays faulty = passes_or_not b mix target code (plays.0, plays.1, plays.2) faulty

-- what is turned down has no output
no_output : (c : Command) (b output : List ℕ) (out notes : Side) → IsTurnedDown c b out notes → Outcome c b (Output output) → ⊥
no_output c b output out notes (inl refused) gives = one_kind c b output refused.place refused.code gives refused.gives
no_output c b output out notes (inr unplayed) gives = played_or_not c b output unplayed.code gives unplayed.gives

-- nor is it a mix that is played
not_to_play : (c : Command) (b : List ℕ) (out notes : Side) → IsTurnedDown c b out notes → IsToPlay c b → ⊥
not_to_play command.Check b out notes down heard = heard
not_to_play (command.Convert c) b out notes down heard = heard
not_to_play (command.Play mix target) b out notes (inl refused) heard = reads_is_not_refused b heard.0 refused.place refused.gives.0 heard.1 refused.gives.1
not_to_play (command.Play mix target) b out notes (inr unplayed) heard = passes_or_not b mix target unplayed.code heard unplayed.gives

-- what is so of the bytes that were read is so of those that the source told
told : (o after : Option (List ℕ)) (bytes : List ℕ) (Q : List ℕ → Type 0) → Consumes o after bytes → IsAtEnd after → Q bytes → IfSome o Q
told None after bytes Q taken end q = tt
told (Some b) None bytes Q taken end q = absurd taken
told (Some b) (Some rest) bytes Q taken end q = subst Q (sym (taken ∙ ap (λ (t : List ℕ). bytes ++ t) end ∙ append-nil bytes)) q

told_any : (o : Option (List ℕ)) (Q : List ℕ → Type 0) → ((b : List ℕ) → Q b) → IfSome o Q
told_any None Q step = tt
told_any (Some b) Q step = step b

-- more than a limit was told where so many were taken
more_told : (o after : Option (List ℕ)) (n : ℕ) (Q : List ℕ → Type 0) → TakesCount o after n → ((b : List ℕ) → n ≤ length b → Q b) → IfSome o Q
more_told None after n Q t step = tt
more_told (Some b) None n Q t step = absurd t.taken
more_told (Some b) (Some rest) n Q t step = step b (omega (arith, ap length t.taken, length-append t.bytes rest, t.counted))

completes : (status : Status) (c : Command) (r : Ran) → Ends status c r → IfSome r.source.before (λ b. CompletesOn status c r.source r.out b)
completes Done c r e =
    told r.source.before r.source.after e.bytes (CompletesOn Done c r.source r.out) e.taken e.end (record {
      done = λ within calm quiet output gives. inl refl;
      refused = λ within calm quiet place code gives. absurd (one_kind c e.bytes e.is.output place code e.is.gives gives);
      unplayable = λ within calm quiet code gives. absurd (played_or_not c e.bytes e.is.output code e.is.gives gives);
      played = λ within calm quiet heard. inl refl;
      too_large = λ more calm. absurd (omega (arith, e.within));
    })
completes Refused c r e =
    told r.source.before r.source.after e.bytes (CompletesOn Refused c r.source r.out) e.taken e.end (record {
      done = λ within calm quiet output gives. absurd (no_output c e.bytes output r.out r.notes e.is gives);
      refused = λ within calm quiet place code gives. inl refl;
      unplayable = λ within calm quiet code gives. inl refl;
      played = λ within calm quiet heard. absurd (not_to_play c e.bytes r.out r.notes e.is heard);
      too_large = λ more calm. absurd (omega (arith, e.within));
    })
completes WriteFault c r e =
    told r.source.before r.source.after e.bytes (CompletesOn WriteFault c r.source r.out) e.taken e.end (record {
      done = λ within calm quiet output gives. absurd (quiet e.is.wrote.rose);
      refused = λ within calm quiet place code gives. absurd (quiet e.is.wrote.rose);
      unplayable = λ within calm quiet code gives. absurd (quiet e.is.wrote.rose);
      played = λ within calm quiet heard. absurd (quiet e.is.wrote.rose);
      too_large = λ more calm. absurd (omega (arith, e.within));
    })
completes Memory c r e =
    told_any r.source.before (CompletesOn Memory c r.source r.out) (λ b. record {
      done = λ within calm quiet output gives. inr refl;
      refused = λ within calm quiet place code gives. inr refl;
      unplayable = λ within calm quiet code gives. inr refl;
      played = λ within calm quiet heard. inr refl;
      too_large = λ more calm. inr refl;
    })
completes ReadFault c r e =
    told_any r.source.before (CompletesOn ReadFault c r.source r.out) (λ b. record {
      done = λ within calm quiet output gives. absurd (calm e.rose);
      refused = λ within calm quiet place code gives. absurd (calm e.rose);
      unplayable = λ within calm quiet code gives. absurd (calm e.rose);
      played = λ within calm quiet heard. absurd (calm e.rose);
      too_large = λ more calm. absurd (calm e.rose);
    })
completes TooLarge c r e =
    more_told r.source.before r.source.after (2 ^ 30 + 1) (CompletesOn TooLarge c r.source r.out) e.taken (λ b more. record {
      done = λ within calm quiet output gives. absurd (omega arith);
      refused = λ within calm quiet place code gives. absurd (omega arith);
      unplayable = λ within calm quiet code gives. absurd (omega arith);
      played = λ within calm quiet heard. absurd (omega arith);
      too_large = λ large calm. inl refl;
    })
completes Usage c r e = absurd e

pub completes_on : (status : Status) (said : Option Command) (c : Command) (r : Ran) → said ≡ Some c → Ends status c r → Completes status said r
completes_on status said c r is e = subst (λ (o : Option Command). Completes status o r) (sym is) (completes status c r e)
