-- An ambisonics configuration stands for one list of fields.
use Rattle.std.proofs.Common.{◌≡◌, ℕ, List, [], refl, subst, arith}
use Rattle.std.proofs.lemmas.Bool.{eqb-true, eqb-false, ltb-false}
use Rattle.std.proofs.lemmas.List.{append-nil}
use Rattle.spec_syntax.specs.Syntax.{each}
use Rattle.spec_syntax.specs.Payload.{FieldValue, IsPlain}
use Rattle.spec_syntax.proofs.Fields.{Has, field_step, end_step, choice_step, bind_step, each_is}
use Rattle.spec_syntax.proofs.Plain.{plain_bind, plain_each}
use Rattle.spec_descriptors.specs.Ambisonics.{AmbisonicsFields, mapping_in, ambisonics_mono, ambisonics_projection, ambisonics_config}
use Rattle.spec_descriptors.specs.ElementFields.{mapping_fields, ambisonics_fields}

byte_is : (substreams after : ℕ) (before : List ℕ) (xs : List FieldValue) (n : ℕ) → Has (mapping_in substreams after before) xs n → xs ≡ mapping_fields n
byte_is substreams after before xs n h =
    field_step h λ v ys e f p h1.
    end_step h1 λ e1 is.
    rw (e, e1, is) refl

pub ambisonics_is : (xs : List FieldValue) (r : AmbisonicsFields) → Has ambisonics_config xs r → xs ≡ ambisonics_fields r
unfolding ambisonics_config ambisonics_mono ambisonics_projection
ambisonics_is xs r h =
    field_step h λ mode ys e f p h1.
    choice_step h1
    (λ mono h2.
    field_step h2 λ outputs ys1 e1 f1 p1 h3.
    field_step h3 λ substreams ys2 e2 f2 p2 h4.
    bind_step (each outputs (mapping_in substreams) []) _ h4 λ front ys3 mapping e3 first h5.
    end_step h5 λ e4 is.
    let list = each_is (mapping_in substreams) mapping_fields (byte_is substreams) outputs front mapping first in
    subst (λ (y : AmbisonicsFields). xs ≡ ambisonics_fields y) is (rw (e, e1, e2, e3, e4, eqb-true mode 0 mono, list.1, append-nil) refl))
    (λ projection h2.
    field_step h2 λ outputs ys1 e1 f1 p1 h3.
    field_step h3 λ substreams ys2 e2 f2 p2 h4.
    field_step h4 λ coupled ys3 e3 f3 p3 h5.
    field_step h5 λ matrix ys4 e4 f4 p4 h6.
    end_step h6 λ e5 is.
    let mode_is : mode ≡ 1 = omega (arith, eqb-false mode 0 projection, ltb-false 1 mode p.0) in
    subst (λ (y : AmbisonicsFields). xs ≡ ambisonics_fields y) is (rw (e, e1, e2, e3, e4, e5, mode_is) refl))

-- ---- no field asks for the bits before

pub ambisonics_plain : IsPlain ambisonics_config
unfolding ambisonics_config ambisonics_mono ambisonics_projection
ambisonics_plain = λ mode. (
  λ outputs substreams. plain_bind (each outputs (mapping_in substreams) []) _ (plain_each (mapping_in substreams) (λ m before v. tt) outputs []) (λ mapping. tt),
  λ outputs substreams coupled matrix. tt,
)
