-- An OBU whose header is read has no fault of a header.
use Rattle.std.proofs.Common.{◌≡◌, ℕ, Bool, true, false, cond, List, [], ◌∷◌, ◌++◌, refl, sym, ap, subst}
use Rattle.std.specs.Prelude.{Option, Some, None}
use Rattle.std.specs.Option.{option_map}
use Rattle.spec_obu.specs.declared.HeaderFault.{HeaderFault}
use Rattle.spec_obu.specs.declared.obu_type.ObuType.{ObuType}
use Rattle.spec_obu.specs.declared.obu_type.ObuType.TheVariants as obu_type
use Rattle.spec_obu.specs.Header.{Head, is_copy}
use Rattle.spec_obu.specs.Kinds.{obu_type_of}
use Rattle.spec_blocks.specs.Shape.{Definition, shape_of, with_definition}
use Rattle.spec_flac.specs.declared.FlacFault.{FlacFault}
use Rattle.spec_flac.specs.FirstFault.{first_fault}
use Rattle.spec_values.specs.declared.fault.Fault.{Fault}
use Rattle.spec_values.specs.declared.fault.Fault.TheVariants as fault
use Rattle.spec_values.specs.Content.{Context, SaysNot}
use Rattle.spec_rules.specs.declared.codec.Codec.{Codec}
use Rattle.spec_rules.specs.declared.codec.Codec.TheVariants as codec
use Rattle.spec_rules.specs.declared.codec_role.CodecRole.{CodecRole}
use Rattle.spec_rules.specs.Role.{Role, Ignored, SequenceHeader, CodecConfig, AudioElement, MixPresentation, Delimiter, ParameterBlock, AudioFrame}
use Rattle.spec_rules.specs.Units.{contains}
use Rattle.spec_rules.specs.Rules.{when, first_of, repeated, unknown, is_other, clashing, flac_shape, frame_tests, codec_tests, tests_before, tests_after, start_tests, fault_before, fault_after}
use Rattle.spec_sequence.specs.Reading.{Entry, roles, is_repeated, early_fault, HasFault, Early, OfPayload, Late}

abbrev IsOwn : Fault → Type 0
IsOwn (fault.Header f) = ⊥
IsOwn _ = Unit {0}

abbrev IsOwnIfAny : Option Fault → Type 0
IsOwnIfAny None = Unit {0}
IsOwnIfAny (Some f) = IsOwn f

abbrev AreOwn : List (Option Fault) → Type 0
AreOwn [] = Unit {0}
AreOwn (row ∷ rows) = IsOwnIfAny row × AreOwn rows

own_first : (rows : List (Option Fault)) → AreOwn rows → IsOwnIfAny (first_of rows)
own_first [] own = tt
own_first (None ∷ rows) own = own_first rows own.1
own_first (Some f ∷ rows) own = own.0

own_when : (test : Bool) (f : Fault) → IsOwn f → IsOwnIfAny (when test f)
own_when true f own = own
own_when false f own = tt

own_choice : (test : Bool) (a b : Option Fault) → IsOwnIfAny a → IsOwnIfAny b → IsOwnIfAny (cond test a b)
own_choice true a b p q = p
own_choice false a b p q = q

own_repeated : (known ids : List ℕ) → IsOwnIfAny (repeated known ids)
own_repeated known [] = tt
own_repeated known (id ∷ ids) = own_choice (contains known id) (Some (fault.Repeated id)) (repeated (known ++ id ∷ []) ids) tt (own_repeated (known ++ id ∷ []) ids)

own_unknown : (known ids : List ℕ) → IsOwnIfAny (unknown known ids)
own_unknown known [] = tt
own_unknown known (id ∷ ids) = own_choice (contains known id) (unknown known ids) (Some (fault.Unknown id)) (own_unknown known ids) tt

own_clashing : (known ds : List Definition) → IsOwnIfAny (clashing known ds)
own_clashing known [] = tt
own_clashing known (d ∷ ds) =
    own_choice (is_other (shape_of known d.parameter_id) d.shape) (Some (fault.ParamClash d.parameter_id)) (clashing (with_definition known d) ds) tt (own_clashing (with_definition known d) ds)

own_flac : (f : Option FlacFault) → IsOwnIfAny (option_map fault.Flac f)
own_flac None = tt
own_flac (Some f) = tt

own_frame : (codec : Codec) (role : CodecRole) (channels : Option ℕ) (bytes : List ℕ) → AreOwn (frame_tests codec role channels bytes)
own_frame codec.Lpcm role channels bytes = (own_when _ fault.Lpcm tt, tt)
own_frame codec.Flac role None bytes = tt
own_frame codec.Flac role (Some channels) bytes = (own_flac (first_fault (flac_shape role channels) bytes), tt)

own_codec : (codecs : List CodecRole) (channels : Option ℕ) (bytes : List ℕ) → AreOwn (codec_tests codecs channels bytes)
own_codec [] channels bytes = tt
own_codec (role ∷ roles) channels bytes = own_frame role.codec role channels bytes

own_start : (l : List Role) → AreOwn (start_tests l)
own_start l = (own_when _ fault.Incomplete tt, (own_when _ fault.NoMixFits tt, tt))

own_before : (l : List Role) (k : ObuType) → AreOwn (tests_before l k)
own_before l obu_type.SequenceHeader = (own_when _ fault.SecondSequence tt, tt)
own_before l obu_type.CodecConfig = (own_when _ fault.Order tt, tt)
own_before l obu_type.AudioElement = (own_when _ fault.Order tt, tt)
own_before l obu_type.MixPresentation = (own_when _ fault.Order tt, tt)
own_before l obu_type.ParameterBlock = own_start l
own_before l obu_type.TemporalDelimiter = own_start l
own_before l obu_type.AudioFrame = own_start l
own_before l obu_type.Reserved = tt

own_after : (l : List Role) (o : Role) → AreOwn (tests_after l o)
own_after l Ignored = tt
own_after l (SequenceHeader profile) = tt
own_after l (CodecConfig c) = (own_when _ (fault.Repeated c.id) tt, tt)
own_after l (AudioElement e) = (own_repeated _ (e.id ∷ []), (own_repeated _ e.substreams, (own_unknown _ (e.codec ∷ []), (own_clashing _ e.definitions, tt))))
own_after l (MixPresentation m) = (own_repeated _ (m.id ∷ []), (own_unknown _ m.elements, (own_clashing _ m.definitions, tt)))
own_after l Delimiter = (own_when _ fault.Delimiter tt, (own_when _ fault.UnitShort tt, tt))
own_after l (ParameterBlock b) = (own_when _ fault.BlockTime tt, tt)
own_after l (AudioFrame f) = (own_when _ fault.UnitFrame tt, (own_when _ fault.Trim tt, own_codec _ _ f.bytes))

own_early : (past : List Entry) (h : Head) (payload : List ℕ) → IsOwnIfAny (early_fault past h payload)
unfolding early_fault fault_before
own_early past h payload = own_choice (is_copy h) _ _ (own_when _ fault.Redundant tt) (own_first (tests_before (roles past) (obu_type_of h.kind)) (own_before (roles past) (obu_type_of h.kind)))

own_late : (l : List Role) (o : Role) → IsOwnIfAny (fault_after l o)
unfolding fault_after
own_late l o = own_first (tests_after l o) (own_after l o)

own_payload : (context : Context) (kind : ℕ) (k : ObuType) (f : Fault) (payload : List ℕ) → SaysNot context kind k f payload → IsOwn f
own_payload context kind obu_type.SequenceHeader f payload s = rw s.1 tt
own_payload context kind obu_type.CodecConfig f payload s = rw s.1 tt
own_payload context kind obu_type.AudioElement f payload s = rw s.1 tt
own_payload context kind obu_type.MixPresentation f payload s = rw s.1 tt
own_payload context kind obu_type.ParameterBlock f payload s = rw s.1 tt
own_payload context kind obu_type.TemporalDelimiter f payload s = absurd s
own_payload context kind obu_type.AudioFrame f payload s = rw s.1 tt
own_payload context kind obu_type.Reserved f payload s = absurd s

own : (past : List Entry) (h : Head) (payload : List ℕ) (f : Fault) → HasFault past h payload f → IsOwn f
own past h payload f (Early e) = subst IsOwnIfAny e (own_early past h payload)
own past h payload f (OfPayload e p) = own_payload _ h.kind (obu_type_of h.kind) f payload p
own past h payload f (Late e content tail p l) = subst IsOwnIfAny l (own_late (roles past) _)

pub no_header_fault : (past : List Entry) (h : Head) (payload : List ℕ) (f : Fault) (g : HeaderFault) → HasFault past h payload f → f ≡ fault.Header g → ⊥
no_header_fault past h payload f g has e = subst IsOwn e (own past h payload f has)
