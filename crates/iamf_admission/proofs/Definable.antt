-- The parameters of a valid element: their blocks last a frame, and recon gains have layers.
use Rattle.std.proofs.Common.{◌≡◌, ◌==◌, ℕ, zero, suc, ◌<◌, ◌≤◌, false, List, [], ◌∷◌, length, get_or, map, sym, subst, ◌∙◌, arith}
use Rattle.std.specs.Prelude.{Option, Some, None}
use Rattle.std.specs.List.{All}
use Rattle.std.proofs.lemmas.Bool.{or_parts, eqb-true, eqb-false, not-false}
use Rattle.spec_syntax.specs.Syntax.{each}
use Rattle.spec_syntax.specs.Payload.{FieldValue, IsValid, canon}
use Rattle.spec_syntax.proofs.Fields.{Has, field_step, end_step, choice_step, check_step, bind_step, each_is}
use Rattle.spec_descriptors.specs.ParameterDefinition.{FixedFields, DefinitionFields, any_duration, frame_timing, frame_definition}
use Rattle.spec_descriptors.specs.Layers.{LayerFields, layer_in, scalable_config}
use Rattle.spec_descriptors.specs.AudioElement.{ParameterFields, Demixing, ReconGain, Extension, ConfigFields, AudioElementFields, is_refused_kind, demixing_definition, recon_gain_definition, extension_definition, parameter_in, scalable_of, config_of, element_front, audio_element}
use Rattle.spec_descriptors.specs.ElementFields.{layer_fields, audio_element_fields}
use Rattle.spec_descriptors.proofs.LayersIs.{layer_is}
use Rattle.spec_descriptors.proofs.OnEach.{Each}
use Rattle.spec_descriptors.proofs.ElementCounts.{each_all}
use Rattle.spec_sequence.specs.ValueRole.{layers_of}
use Rattle.obu_descriptors.specs.declared.audio_element.AudioElement.{AudioElement}
use Rattle.obu_descriptors.specs.ParameterView.{view_param}
use Rattle.obu_element_config.specs.ConfigView.{view_config}
use Rattle.obu_descriptors.specs.ElementView.{view_element}
use Rattle.obu_data.specs.ShapeView.{LastsAFrame}
use Rattle.iamf_admission.specs.Defining.{CanDefine}

-- ---- each of a list

each_mapped : {X Y : Type 0} (P : Y → Type 0) (f : X → Y) (xs : List X) → Each P (map f xs) → (k : ℕ) (d : X) → k < length xs → P (f (get_or xs k d))
each_mapped P f [] all k d lt = absurd (omega arith)
each_mapped P f (x ∷ xs) all zero d lt = all.0
each_mapped P f (x ∷ xs) all (suc k) d lt = each_mapped P f xs all.1 k d (omega arith)

-- ---- definitions

abbrev IsFrame : ℕ → FixedFields → Type 0
IsFrame n fixed = (fixed.duration ≡ n) × (fixed.constant_subblock_duration ≡ n)

timing_lasts : (n : ℕ) (xs : List FieldValue) (r : FixedFields) → Has (frame_timing n) xs r → IsFrame n r
unfolding frame_timing
timing_lasts n xs r h =
    field_step h λ duration ys e f p h1.
    field_step h1 λ constant ys1 e1 f1 p1 h2.
    let one : duration ≡ n = eqb-true duration n (not-false _ p.0) in
    let two : constant ≡ n = eqb-true constant n (not-false _ p1.0) in
    choice_step h2
    (λ there h3.
    field_step h3 λ count ys2 e2 f2 p2 h4.
    bind_step (each count any_duration []) _ h4 λ front ys3 durations e3 first h5.
    end_step h5 λ e4 is.
    subst (λ (y : FixedFields). IsFrame n y) is (one, two))
    (λ none h3.
    end_step h3 λ e2 is.
    subst (λ (y : FixedFields). IsFrame n y) is (one, two))

abbrev IsTimed : ℕ → Option FixedFields → Type 0
IsTimed n None = ⊥
IsTimed n (Some fixed) = IsFrame n fixed

definition_timed : (n : ℕ) (xs : List FieldValue) (r : DefinitionFields) → Has (frame_definition n) xs r → IsTimed n r.fixed
unfolding frame_definition
definition_timed n xs r h =
    field_step h λ id ys e f p h1.
    field_step h1 λ rate ys1 e1 f1 p1 h2.
    field_step h2 λ mode ys2 e2 f2 p2 h3.
    field_step h3 λ reserved ys3 e3 f3 p3 h4.
    bind_step (frame_timing n) _ h4 λ front ys4 fixed e4 first h5.
    end_step h5 λ e5 is.
    subst (λ (y : DefinitionFields). IsTimed n y.fixed) is (timing_lasts n front fixed first)

-- ---- parameters

-- in an element of the type, for frames of n samples
abbrev IsDefined : ℕ → ℕ → ParameterFields → Type 0
IsDefined n type (Demixing d mode weight) = IsTimed n d.fixed
IsDefined n type (ReconGain d) = IsTimed n d.fixed × (type ≡ 0)
IsDefined n type (Extension kind bytes) = Unit {0}

recon_is_scalable : (type kind : ℕ) (before : List ParameterFields) → kind ≡ 2 → is_refused_kind type before kind ≡ false → type ≡ 0
recon_is_scalable type kind before two passed =
    let here = subst (λ (k : ℕ). is_refused_kind type before k ≡ false) two passed in
    eqb-true type 0 (not-false _ (or_parts _ _ here).0)

parameter_defined : (n type after : ℕ) (before : List ParameterFields) (xs : List FieldValue) (r : ParameterFields) → Has (parameter_in n type after before) xs r → IsDefined n type r
unfolding parameter_in demixing_definition recon_gain_definition extension_definition
parameter_defined n type after before xs r h =
    field_step h λ kind ys e f p h1.
    choice_step h1
    (λ one h2.
    bind_step (frame_definition n) _ h2 λ front ys1 definition e1 first h3.
    field_step h3 λ mode ys2 e2 f2 p2 h4.
    field_step h4 λ reserved ys3 e3 f3 p3 h5.
    field_step h5 λ weight ys4 e4 f4 p4 h6.
    field_step h6 λ reserved' ys5 e5 f5 p5 h7.
    end_step h7 λ e6 is.
    subst (λ (y : ParameterFields). IsDefined n type y) is (definition_timed n front definition first))
    (λ not_one h2.
    choice_step h2
    (λ two h3.
    bind_step (frame_definition n) _ h3 λ front ys1 definition e1 first h4.
    end_step h4 λ e2 is.
    subst (λ (y : ParameterFields). IsDefined n type y) is (definition_timed n front definition first, recon_is_scalable type kind before (eqb-true kind 2 two) p.0))
    (λ other h3.
    field_step h3 λ size ys1 e1 f1 p1 h4.
    field_step h4 λ bytes ys2 e2 f2 p2 h5.
    end_step h5 λ e3 is.
    subst (λ (y : ParameterFields). IsDefined n type y) is tt))

-- ---- layers

abbrev HasLayers : List LayerFields → Type 0
HasLayers layers = (1 ≤ length layers) × (length layers ≤ 6)

scalable_layers : (xs : List FieldValue) (r : List LayerFields) → Has scalable_config xs r → HasLayers r
unfolding scalable_config
scalable_layers xs r h =
    field_step h λ count ys e f p h1.
    field_step h1 λ reserved ys1 e1 f1 p1 h2.
    let tests = or_parts (count == 0) (count == 7) p.0 in
    let size = (each_is layer_in layer_fields layer_is count ys1 r h2).0 in
    (omega (arith, size, eqb-false count 0 tests.0), omega (arith, size, f, eqb-false count 7 tests.1))

config_layers : (type count : ℕ) (xs : List FieldValue) (r : ConfigFields) → type ≡ 0 → Has (config_of type count) xs r → HasLayers (layers_of r)
unfolding scalable_of
config_layers type count xs r scalable h =
    choice_step h
    (λ is_zero h1.
    bind_step scalable_config _ h1 λ front ys layers e first h2.
    check_step h2 λ passed h3.
    end_step h3 λ e1 is.
    subst (λ (y : ConfigFields). HasLayers (layers_of y)) is (scalable_layers front layers first))
    (λ is_not h1. absurd (eqb-false type 0 is_not scalable))

-- ---- what can be defined

timed_lasts : (n : ℕ) (fixed : Option FixedFields) → 0 < n → IsTimed n fixed → LastsAFrame fixed
timed_lasts n None some h = absurd h
timed_lasts n (Some fixed) some h = (omega (arith, h.0, some), h.1 ∙ sym h.0)

can_define : (n type : ℕ) (layers : List LayerFields) (p : ParameterFields) → 0 < n → (type ≡ 0 → HasLayers layers) → IsDefined n type p → CanDefine layers p
can_define n type layers (Demixing d mode weight) some few h = timed_lasts n d.fixed some h
can_define n type layers (ReconGain d) some few h = (timed_lasts n d.fixed some h.0, (few h.1).0, (few h.1).1)
can_define n type layers (Extension kind bytes) some few h = tt

all_can : (n type : ℕ) (layers : List LayerFields) (ps : List ParameterFields) → 0 < n → (type ≡ 0 → HasLayers layers) → Each (IsDefined n type) ps → Each (CanDefine layers) ps
all_can n type layers [] some few all = tt
all_can n type layers (p ∷ ps) some few all = (can_define n type layers p some few all.0, all_can n type layers ps some few all.1)

-- ---- the element

record Defines (n : ℕ) (e : AudioElementFields) : Type 0 where
  pub type : ℕ
  pub layers : type ≡ 0 → HasLayers (layers_of e.config)
  pub all : Each (IsDefined n type) e.parameters

element_defines : (n : ℕ) (xs : List FieldValue) (r : AudioElementFields) → Has (audio_element n) xs r → Defines n r
unfolding audio_element
element_defines n xs r h =
    bind_step element_front _ h λ front_xs ys front e first h1.
    field_step h1 λ count ys1 e1 f1 p1 h2.
    bind_step (each count (parameter_in n front.audio_element_type) []) _ h2 λ parameters_xs ys2 parameters e2 second h3.
    bind_step (config_of front.audio_element_type (length front.audio_substream_ids)) _ h3 λ config_xs ys3 config e3 third h4.
    end_step h4 λ e4 is.
    let type = front.audio_element_type in
    let few : type ≡ 0 → HasLayers (layers_of config) = λ scalable. config_layers type (length front.audio_substream_ids) config_xs config scalable third in
    let all = (each_all (parameter_in n type) (IsDefined n type) (parameter_defined n type) count [] parameters_xs parameters tt second).0 in
    subst (λ (y : AudioElementFields). Defines n y) is (record { type = type; layers = few; all = all })

valid_defines : (n : ℕ) (r : AudioElementFields) → IsValid (audio_element n) audio_element_fields r → Defines n r
valid_defines n r valid = element_defines n (audio_element_fields r) r (record { before = []; bits = canon (audio_element_fields r); stands = valid })

-- in an element for frames that are not empty each parameter can be defined
pub definable : (n : ℕ) (e : AudioElement) → 0 < n → IsValid (audio_element n) audio_element_fields (view_element e)
    → All (λ p. CanDefine (layers_of (view_config (length e.substreams.items) e.config)) (view_param p)) e.params.items
definable n e some valid =
    let d = valid_defines n (view_element e) valid in
    let layers = layers_of (view_config (length e.substreams.items) e.config) in
    each_mapped (CanDefine layers) view_param e.params.items (all_can n d.type layers (map view_param e.params.items) some d.layers d.all)
