-- A mix gain stands for one list of fields.
use Rattle.std.proofs.Common.{◌≡◌, ℕ, ◌<◌, List, [], ◌∷◌, Option, Some, length, refl, ap, subst, arith}
use Rattle.std.specs.Prelude.{◌==◌}
use Rattle.std.proofs.lemmas.Bool.{eqb-true, eqb-false}
use Rattle.std.proofs.lemmas.List.{append-nil}
use Rattle.spec_syntax.specs.Syntax.{Syntax, End, each}
use Rattle.spec_bits.specs.Form.{Number, Leb128, Reserved}
use Rattle.spec_syntax.specs.Payload.{FieldValue, a_field, IsPlain}
use Rattle.spec_syntax.specs.Repetition.{joined}
use Rattle.spec_syntax.proofs.Fields.{Has, field_step, end_step, choice_step, check_step, bind_step, each_is}
use Rattle.spec_syntax.proofs.Plain.{plain_bind, plain_each}
use Rattle.spec_descriptors.specs.declared.fault.MixFault.{MixFault}
use Rattle.spec_descriptors.specs.ParameterDefinition.{FixedFields, DefinitionFields}
use Rattle.spec_descriptors.specs.MixGain.{some_duration, durations_of, own_timing, maybe_fixed, gain_definition, MixGainFields, mix_gain}
use Rattle.spec_descriptors.specs.TimingFields.{leb_fields, fixed_fields, mode_fields, definition_fields}
use Rattle.spec_descriptors.specs.MixFields.{mix_gain_fields}

duration_is : (later : ℕ) (before : List ℕ) (xs : List FieldValue) (n : ℕ) → Has (some_duration later before) xs n → xs ≡ leb_fields n
duration_is later before xs n h =
    field_step h λ v ys e f p h1.
    end_step h1 λ e1 is.
    rw (e, e1, is) refl

durations_are : (count whole : ℕ) (xs : List FieldValue) (r : List ℕ) → Has (durations_of count whole) xs r → (length r ≡ count) × (xs ≡ joined leb_fields r)
unfolding durations_of
durations_are count whole xs r h =
    bind_step (each count some_duration []) _ h λ front ys durations e first h1.
    check_step h1 λ adds h2.
    end_step h2 λ e1 is.
    let list = each_is some_duration leb_fields duration_is count front durations first in
    subst (λ (y : List ℕ). (length y ≡ count) × (xs ≡ joined leb_fields y)) is (list.0, rw (e, e1, append-nil) list.1)

own_timing_is : (xs : List FieldValue) (r : FixedFields) → Has own_timing xs r → xs ≡ fixed_fields r
unfolding own_timing
own_timing_is xs r h =
    field_step h λ duration ys e f p h1.
    field_step h1 λ constant ys1 e1 f1 p1 h2.
    choice_step h2
    (λ some h3.
    field_step h3 λ count ys2 e2 f2 p2 h4.
    bind_step (durations_of count duration) _ h4 λ front ys3 durations e3 first h5.
    end_step h5 λ e4 is.
    let list = durations_are count duration front durations first in
    subst (λ (y : FixedFields). xs ≡ fixed_fields y) is (rw (e, e1, e2, e3, e4, append-nil, list.1, list.0, some) refl))
    (λ none h3.
    end_step h3 λ e2 is.
    subst (λ (y : FixedFields). xs ≡ fixed_fields y) is (rw (e, e1, e2, none) refl))

-- with the mode before it
maybe_fixed_is : (mode : ℕ) (xs : List FieldValue) (r : Option FixedFields) → mode < 2 → Has (maybe_fixed (mode == 0) own_timing) xs r → a_field (Number 1) mode ∷ a_field (Reserved 7) tt ∷ xs ≡ mode_fields r
maybe_fixed_is mode xs r small h =
    choice_step h
    (λ some h1.
    bind_step own_timing _ h1 λ front ys fixed e first h2.
    end_step h2 λ e1 is.
    let fields : xs ≡ fixed_fields fixed = rw (e, e1, append-nil) (own_timing_is front fixed first) in
    subst (λ (y : Option FixedFields). a_field (Number 1) mode ∷ a_field (Reserved 7) tt ∷ xs ≡ mode_fields y) is (rw (eqb-true mode 0 some, fields) refl))
    (λ none h1.
    end_step h1 λ e is.
    let one : mode ≡ 1 = omega (arith, small, eqb-false mode 0 none) in
    subst (λ (y : Option FixedFields). a_field (Number 1) mode ∷ a_field (Reserved 7) tt ∷ xs ≡ mode_fields y) is (rw (one, e) refl))

abbrev definition_of : ℕ → ℕ → Option FixedFields → Syntax MixFault DefinitionFields
definition_of id rate fixed = End (record { parameter_id = id; parameter_rate = rate; fixed = fixed })

gain_definition_is : (xs : List FieldValue) (r : DefinitionFields) → Has gain_definition xs r → xs ≡ definition_fields r
unfolding gain_definition
gain_definition_is xs r h =
    field_step h λ id ys e f p h1.
    field_step h1 λ rate ys1 e1 f1 p1 h2.
    field_step h2 λ mode ys2 e2 f2 p2 h3.
    field_step h3 λ reserved ys3 e3 f3 p3 h4.
    bind_step (maybe_fixed (mode == 0) own_timing) (definition_of id rate) h4 λ front ys4 fixed e4 first h5.
    end_step h5 λ e5 is.
    let timing = maybe_fixed_is mode front fixed f2 first in
    subst (λ (y : DefinitionFields). xs ≡ definition_fields y) is (rw (e, e1, e2, e3, e4, e5, append-nil) (ap (λ (zs : List FieldValue). a_field Leb128 id ∷ a_field Leb128 rate ∷ zs) timing))

pub mix_gain_is : (xs : List FieldValue) (r : MixGainFields) → Has mix_gain xs r → xs ≡ mix_gain_fields r
unfolding mix_gain mix_gain_fields
mix_gain_is xs r h =
    bind_step gain_definition _ h λ front ys definition e first h1.
    field_step h1 λ gain ys1 e1 f1 p1 h2.
    end_step h2 λ e2 is.
    let front_is = gain_definition_is front definition first in
    subst (λ (y : MixGainFields). xs ≡ mix_gain_fields y) is (rw (e, e1, e2, front_is) refl)

-- ---- no field asks for the bits before

durations_plain : (count whole : ℕ) → IsPlain (durations_of count whole)
unfolding durations_of
durations_plain count whole = plain_bind (each count some_duration []) _ (plain_each some_duration (λ m before v. tt) count []) (λ durations. tt)

own_timing_plain : IsPlain own_timing
unfolding own_timing
own_timing_plain = λ duration constant. (λ count. plain_bind (durations_of count duration) _ (durations_plain count duration) (λ durations. tt), tt)

gain_definition_plain : IsPlain gain_definition
unfolding gain_definition
gain_definition_plain = λ id rate mode reserved.
    plain_bind (maybe_fixed (mode == 0) own_timing) (definition_of id rate) (plain_bind own_timing (λ fixed. End (Some fixed)) own_timing_plain (λ fixed. tt), tt) (λ fixed. tt)

pub mix_gain_plain : IsPlain mix_gain
unfolding mix_gain
mix_gain_plain = plain_bind gain_definition _ gain_definition_plain (λ definition gain. tt)
