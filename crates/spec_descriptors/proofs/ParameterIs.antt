-- A parameter of an element stands for one list of fields.
use Rattle.std.proofs.Common.{◌≡◌, ℕ, List, [], refl, subst, arith}
use Rattle.std.proofs.lemmas.Bool.{eqb-true, eqb-false}
use Rattle.std.proofs.lemmas.List.{append-nil}
use Rattle.spec_syntax.specs.Syntax.{each}
use Rattle.spec_syntax.specs.Payload.{FieldValue, IsPlain}
use Rattle.spec_syntax.proofs.Fields.{Has, field_step, end_step, choice_step, bind_step, each_is}
use Rattle.spec_syntax.proofs.Plain.{plain_bind, plain_each}
use Rattle.spec_descriptors.specs.ParameterDefinition.{FixedFields, DefinitionFields, any_duration, frame_timing, frame_definition}
use Rattle.spec_descriptors.specs.AudioElement.{ParameterFields, demixing_definition, recon_gain_definition, extension_definition, parameter_in}
use Rattle.spec_descriptors.specs.TimingFields.{leb_fields, fixed_fields, definition_fields}
use Rattle.spec_descriptors.specs.ElementFields.{parameter_fields}

duration_is : (after : ℕ) (before : List ℕ) (xs : List FieldValue) (n : ℕ) → Has (any_duration after before) xs n → xs ≡ leb_fields n
duration_is after before xs n h =
    field_step h λ v ys e f p h1.
    end_step h1 λ e1 is.
    rw (e, e1, is) refl

timing_is : (frame_length : ℕ) (xs : List FieldValue) (r : FixedFields) → Has (frame_timing frame_length) xs r → xs ≡ fixed_fields r
unfolding frame_timing
timing_is frame_length xs r h =
    field_step h λ duration ys e f p h1.
    field_step h1 λ constant ys1 e1 f1 p1 h2.
    choice_step h2
    (λ there h3.
    field_step h3 λ count ys2 e2 f2 p2 h4.
    bind_step (each count any_duration []) _ h4 λ front ys3 durations e3 first h5.
    end_step h5 λ e4 is.
    let list = each_is any_duration leb_fields duration_is count front durations first in
    subst (λ (y : FixedFields). xs ≡ fixed_fields y) is (rw (e, e1, e2, e3, e4, there, list.0, list.1, append-nil) refl))
    (λ none h3.
    end_step h3 λ e2 is.
    subst (λ (y : FixedFields). xs ≡ fixed_fields y) is (rw (e, e1, e2, none) refl))

pub definition_is : (frame_length : ℕ) (xs : List FieldValue) (r : DefinitionFields) → Has (frame_definition frame_length) xs r → xs ≡ definition_fields r
unfolding frame_definition
definition_is frame_length xs r h =
    field_step h λ id ys e f p h1.
    field_step h1 λ rate ys1 e1 f1 p1 h2.
    field_step h2 λ mode ys2 e2 f2 p2 h3.
    field_step h3 λ reserved ys3 e3 f3 p3 h4.
    bind_step (frame_timing frame_length) _ h4 λ front ys4 fixed e4 first h5.
    end_step h5 λ e5 is.
    let mode_is : mode ≡ 0 = omega (arith, f2, eqb-false mode 1 p2.0) in
    subst (λ (y : DefinitionFields). xs ≡ definition_fields y) is (rw (e, e1, e2, e3, e4, e5, mode_is, timing_is frame_length front fixed first, append-nil) refl)

pub parameter_is : (frame_length kind after : ℕ) (before : List ParameterFields) (xs : List FieldValue) (r : ParameterFields) → Has (parameter_in frame_length kind after before) xs r → xs ≡ parameter_fields r
unfolding parameter_in demixing_definition recon_gain_definition extension_definition
parameter_is frame_length kind after before xs r h =
    field_step h λ type ys e f p h1.
    choice_step h1
    (λ one h2.
    bind_step (frame_definition frame_length) _ h2 λ front ys1 definition e1 first h3.
    field_step h3 λ mode ys2 e2 f2 p2 h4.
    field_step h4 λ reserved ys3 e3 f3 p3 h5.
    field_step h5 λ weight ys4 e4 f4 p4 h6.
    field_step h6 λ reserved' ys5 e5 f5 p5 h7.
    end_step h7 λ e6 is.
    subst (λ (y : ParameterFields). xs ≡ parameter_fields y) is (rw (e, e1, e2, e3, e4, e5, e6, eqb-true type 1 one, definition_is frame_length front definition first) refl))
    (λ not_one h2.
    choice_step h2
    (λ two h3.
    bind_step (frame_definition frame_length) _ h3 λ front ys1 definition e1 first h4.
    end_step h4 λ e2 is.
    subst (λ (y : ParameterFields). xs ≡ parameter_fields y) is (rw (e, e1, e2, eqb-true type 2 two, definition_is frame_length front definition first, append-nil) refl))
    (λ other h3.
    field_step h3 λ size ys1 e1 f1 p1 h4.
    field_step h4 λ bytes ys2 e2 f2 p2 h5.
    end_step h5 λ e3 is.
    subst (λ (y : ParameterFields). xs ≡ parameter_fields y) is (rw (e, e1, e2, e3, ← f2.0) refl)))

-- ---- no field asks for the bits before

timing_plain : (frame_length : ℕ) → IsPlain (frame_timing frame_length)
unfolding frame_timing
timing_plain frame_length = λ duration constant. (λ count. plain_bind (each count any_duration []) _ (plain_each any_duration (λ m before v. tt) count []) (λ durations. tt), tt)

definition_plain : (frame_length : ℕ) → IsPlain (frame_definition frame_length)
unfolding frame_definition
definition_plain frame_length = λ id rate mode reserved. plain_bind (frame_timing frame_length) _ (timing_plain frame_length) (λ fixed. tt)

pub parameter_plain : (frame_length kind after : ℕ) (before : List ParameterFields) → IsPlain (parameter_in frame_length kind after before)
unfolding parameter_in demixing_definition recon_gain_definition extension_definition
parameter_plain frame_length kind after before = λ type. (
  plain_bind (frame_definition frame_length) _ (definition_plain frame_length) (λ definition mode reserved weight reserved'. tt),
  (plain_bind (frame_definition frame_length) _ (definition_plain frame_length) (λ definition. tt), λ size bytes. tt),
)
