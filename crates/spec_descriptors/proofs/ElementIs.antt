-- An audio element stands for one list of fields.
use Rattle.std.proofs.Common.{◌≡◌, ℕ, List, [], length, refl, sym, subst}
use Rattle.std.proofs.lemmas.Bool.{eqb-true}
use Rattle.std.proofs.lemmas.List.{append-nil}
use Rattle.spec_syntax.specs.Syntax.{each}
use Rattle.spec_syntax.specs.Payload.{FieldValue, IsPlain}
use Rattle.spec_syntax.specs.Laws.{IsSyntaxOf}
use Rattle.spec_syntax.proofs.Fields.{Has, field_step, end_step, choice_step, check_step, bind_step, each_is, syntax_of}
use Rattle.spec_syntax.proofs.Plain.{plain_bind, plain_each}
use Rattle.spec_descriptors.specs.declared.fault.DescriptorFault.TheVariants as fault
use Rattle.spec_descriptors.specs.Layers.{scalable_config}
use Rattle.spec_descriptors.specs.Ambisonics.{ambisonics_config}
use Rattle.spec_descriptors.specs.AudioElement.{ConfigFields, FrontFields, AudioElementFields, type_of, substream_id_in, element_front, parameter_in, scalable_of, ambisonics_of, other_config, config_of, audio_element}
use Rattle.spec_descriptors.specs.TimingFields.{leb_fields}
use Rattle.spec_descriptors.specs.ElementFields.{parameter_fields, config_fields, front_fields, audio_element_fields}
use Rattle.spec_descriptors.proofs.ParameterIs.{parameter_is, parameter_plain}
use Rattle.spec_descriptors.proofs.LayersIs.{scalable_is, scalable_plain}
use Rattle.spec_descriptors.proofs.AmbisonicsIs.{ambisonics_is, ambisonics_plain}

id_is : (after : ℕ) (before : List ℕ) (xs : List FieldValue) (n : ℕ) → Has (substream_id_in after before) xs n → xs ≡ leb_fields n
id_is after before xs n h =
    field_step h λ v ys e f p h1.
    end_step h1 λ e1 is.
    rw (e, e1, is) refl

front_is : (xs : List FieldValue) (r : FrontFields) → Has element_front xs r → xs ≡ front_fields r
unfolding element_front
front_is xs r h =
    field_step h λ id ys e f p h1.
    field_step h1 λ type ys1 e1 f1 p1 h2.
    field_step h2 λ reserved ys2 e2 f2 p2 h3.
    field_step h3 λ codec ys3 e3 f3 p3 h4.
    field_step h4 λ count ys4 e4 f4 p4 h5.
    bind_step (each count substream_id_in []) _ h5 λ front ys5 ids e5 first h6.
    end_step h6 λ e6 is.
    let list = each_is substream_id_in leb_fields id_is count front ids first in
    subst (λ (y : FrontFields). xs ≡ front_fields y) is (rw (e, e1, e2, e3, e4, e5, e6, list.0, list.1, append-nil) refl)

-- a configuration's fields, and that it is of the type
abbrev IsConfig : ℕ → List FieldValue → ConfigFields → Type 0
IsConfig type xs r = (type_of r ≡ type) × (xs ≡ config_fields r)

config_is : (type count : ℕ) (xs : List FieldValue) (r : ConfigFields) → Has (config_of type count) xs r → IsConfig type xs r
unfolding scalable_of ambisonics_of other_config
config_is type count xs r h =
    choice_step h
    (λ zero h1.
    bind_step scalable_config _ h1 λ front ys layers e first h2.
    check_step h2 λ passed h3.
    end_step h3 λ e1 is.
    subst (λ (y : ConfigFields). IsConfig type xs y) is (sym (eqb-true type 0 zero), rw (e, e1, scalable_is front layers first, append-nil) refl))
    (λ not_zero h1.
    choice_step h1
    (λ one h2.
    bind_step ambisonics_config _ h2 λ front ys config e first h3.
    check_step h3 λ passed h4.
    end_step h4 λ e1 is.
    subst (λ (y : ConfigFields). IsConfig type xs y) is (sym (eqb-true type 1 one), rw (e, e1, ambisonics_is front config first, append-nil) refl))
    (λ other h2.
    field_step h2 λ size ys e f p h3.
    field_step h3 λ bytes ys1 e1 f1 p1 h4.
    end_step h4 λ e2 is.
    subst (λ (y : ConfigFields). IsConfig type xs y) is (refl, rw (e, e1, e2, ← f1.0) refl)))

audio_element_is : (frame_length : ℕ) (xs : List FieldValue) (r : AudioElementFields) → Has (audio_element frame_length) xs r → xs ≡ audio_element_fields r
unfolding audio_element
audio_element_is frame_length xs r h =
    bind_step element_front _ h λ front_xs ys front e first h1.
    field_step h1 λ count ys1 e1 f1 p1 h2.
    bind_step (each count (parameter_in frame_length front.audio_element_type) []) _ h2 λ parameters_xs ys2 parameters e2 second h3.
    bind_step (config_of front.audio_element_type (length front.audio_substream_ids)) _ h3 λ config_xs ys3 config e3 third h4.
    end_step h4 λ e4 is.
    let list = each_is (parameter_in frame_length front.audio_element_type) parameter_fields (parameter_is frame_length front.audio_element_type) count parameters_xs parameters second in
    let last = config_is front.audio_element_type (length front.audio_substream_ids) config_xs config third in
    subst (λ (y : AudioElementFields). xs ≡ audio_element_fields y) is (rw (e, e1, e2, e3, e4, front_is front_xs front first, list.0, list.1, last.0, last.1, append-nil) refl)

-- ---- no field asks for the bits before

front_plain : IsPlain element_front
unfolding element_front
front_plain = λ id type reserved codec count. plain_bind (each count substream_id_in []) _ (plain_each substream_id_in (λ m before v. tt) count []) (λ ids. tt)

config_plain : (type count : ℕ) → IsPlain (config_of type count)
unfolding scalable_of ambisonics_of other_config
config_plain type count = (
  plain_bind scalable_config _ scalable_plain (λ layers. tt),
  (plain_bind ambisonics_config _ ambisonics_plain (λ config. tt), λ size bytes. tt),
)

audio_element_plain : (frame_length : ℕ) → IsPlain (audio_element frame_length)
unfolding audio_element
audio_element_plain frame_length =
    plain_bind element_front _ front_plain λ front count.
    plain_bind (each count (parameter_in frame_length front.audio_element_type) []) _ (plain_each (parameter_in frame_length front.audio_element_type) (parameter_plain frame_length front.audio_element_type) count [])
    λ parameters. plain_bind (config_of front.audio_element_type (length front.audio_substream_ids)) _ (config_plain front.audio_element_type (length front.audio_substream_ids)) (λ config. tt)

pub audio_element_syntax : (frame_length : ℕ) → IsSyntaxOf (λ e. fault.Field e) (audio_element frame_length) audio_element_fields
audio_element_syntax frame_length = syntax_of _ (audio_element frame_length) audio_element_fields (audio_element_is frame_length) (audio_element_plain frame_length)
