-- Lists with the same descriptors, frames and blocks, which are in the same units: what is tested after them is the same.
use Rattle.std.proofs.Common.{◌≡◌, ℕ, Bool, true, false, cond, eqb, ltb, List, [], ◌∷◌, ◌++◌, map, refl, sym, ap, ap₂, ◌∙◌}
use Rattle.std.specs.Prelude.{Option, Some, None, fold}
use Rattle.std.specs.List.{flat_map}
use Rattle.spec_obu.specs.declared.trim.Trim.{Trim}
use Rattle.spec_values.specs.declared.fault.Fault.TheVariants.{BlockTime}
use Rattle.spec_blocks.specs.Shape.{Shape, MixGain, Demixing, ReconGain, Definition, with_definition, shape_of}
use Rattle.spec_rules.specs.Role.{Role, Ignored, CodecConfig, AudioElement, MixPresentation, Delimiter, ParameterBlock, AudioFrame, ElementRole, MixRole, BlockRole, FrameRole}
use Rattle.spec_rules.specs.Descriptors.{profile_of, codec_of, element_of, mix_of, definitions_of, substreams_of, pairs_of, profiles, codecs, elements, mixes, substreams, first_length, frame_length, definitions, channels_in, channels_of}
use Rattle.spec_rules.specs.Profile.{has_fit}
use Rattle.spec_rules.specs.Units.{is_data, stream_of, trim_of, block_of, unit_after, placed, if_unit, in_units, in_unit, before_unit, streams_in, trims_in, trims_before, blocks_in, is_complete, duration_of, block_in, end_after, block_end}
use Rattle.spec_rules.specs.Rules.{when, first_of, lacks_descriptors, has_bad_trim, is_late, fault_after}
use Rattle.spec_rules.proofs.Balance.{fit_in, fit_is}
use Rattle.spec_bodies.proofs.Filtered.{filtered, same_filtered, flat_flat}

-- it is no reserved OBU, no redundant copy and no delimiter
abbrev pub counts : Role → Bool
counts Ignored = false
counts Delimiter = false
counts _ = true

abbrev pub counts_in : ℕ × Role → Bool
counts_in p = counts p.1

pub record IsAlike (l m : List Role) : Type 0 where
  pub same : filtered counts m ≡ filtered counts l
  pub placed_same : filtered counts_in (placed m) ≡ filtered counts_in (placed l)

-- ---- descriptors

adds_none : {X : Type 0} (f : Role → List X) → f Ignored ≡ [] → f Delimiter ≡ [] → (o : Role) → counts o ≡ false → f o ≡ []
adds_none f ignored delimiter Ignored h = ignored
adds_none f ignored delimiter Delimiter h = delimiter
adds_none f ignored delimiter _ h = absurd cc

flat_same : {X : Type 0} (f : Role → List X) (l m : List Role) → IsAlike l m → f Ignored ≡ [] → f Delimiter ≡ [] → flat_map f m ≡ flat_map f l
flat_same f l m a ignored delimiter = same_filtered counts f (adds_none f ignored delimiter) m l a.same

pub profiles_same : (l m : List Role) → IsAlike l m → profiles m ≡ profiles l
unfolding profiles
profiles_same l m a = flat_same profile_of l m a refl refl

pub codecs_same : (l m : List Role) → IsAlike l m → codecs m ≡ codecs l
unfolding codecs
codecs_same l m a = flat_same codec_of l m a refl refl

pub elements_same : (l m : List Role) → IsAlike l m → elements m ≡ elements l
unfolding elements
elements_same l m a = flat_same element_of l m a refl refl

pub mixes_same : (l m : List Role) → IsAlike l m → mixes m ≡ mixes l
unfolding mixes
mixes_same l m a = flat_same mix_of l m a refl refl

pub substreams_same : (l m : List Role) → IsAlike l m → substreams m ≡ substreams l
unfolding substreams
substreams_same l m a = flat_same substreams_of l m a refl refl

pub definitions_same : (l m : List Role) → IsAlike l m → definitions m ≡ definitions l
unfolding definitions
definitions_same l m a = ap (λ (ds : List Definition). fold with_definition [] ds) (flat_same definitions_of l m a refl refl)

pub frame_length_same : (l m : List Role) → IsAlike l m → frame_length m ≡ frame_length l
unfolding frame_length
frame_length_same l m a = ap first_length (codecs_same l m a)

channels_same : (l m : List Role) (s : ℕ) → IsAlike l m → channels_of m s ≡ channels_of l s
unfolding channels_of
channels_same l m s a = ap (λ (ps : List (ℕ × ℕ)). channels_in ps s) (flat_same pairs_of l m a refl refl)

pub lacks_same : (l m : List Role) → IsAlike l m → lacks_descriptors m ≡ lacks_descriptors l
unfolding lacks_descriptors
lacks_same l m a = rw (profiles_same l m a, codecs_same l m a, elements_same l m a, mixes_same l m a) refl

pub fit_same : (l m : List Role) → IsAlike l m → has_fit m ≡ has_fit l
fit_same l m a =
    fit_is m
    ∙ ap (λ (ps : List ℕ). fit_in ps (elements m) (mixes m)) (profiles_same l m a)
    ∙ ap (λ (es : List ElementRole). fit_in (profiles l) es (mixes m)) (elements_same l m a)
    ∙ ap (λ (ms : List MixRole). fit_in (profiles l) (elements l) ms) (mixes_same l m a)
    ∙ sym (fit_is l)

-- ---- units

units_add_none : {X : Type 0} (f : Role → List X) (test : ℕ → Bool) → f Ignored ≡ [] → f Delimiter ≡ [] → (p : ℕ × Role) → counts_in p ≡ false → flat_map f (if_unit test p) ≡ []
units_add_none f test ignored delimiter (u, o) h = one (test u) (adds_none f ignored delimiter o h) where
  one : (b : Bool) → f o ≡ [] → flat_map f (cond b (o ∷ []) []) ≡ []
  one true none = rw none refl
  one false none = refl

in_units_same : {X : Type 0} (f : Role → List X) (test : ℕ → Bool) (l m : List Role) → IsAlike l m → f Ignored ≡ [] → f Delimiter ≡ [] → flat_map f (in_units test m) ≡ flat_map f (in_units test l)
unfolding in_units
in_units_same f test l m a ignored delimiter =
    flat_flat f (if_unit test) (placed m)
    ∙ same_filtered counts_in (λ p. flat_map f (if_unit test p)) (units_add_none f test ignored delimiter) (placed m) (placed l) a.placed_same
    ∙ sym (flat_flat f (if_unit test) (placed l))

pub streams_in_same : (l m : List Role) (u : ℕ) → IsAlike l m → streams_in u m ≡ streams_in u l
unfolding streams_in in_unit
streams_in_same l m u a = in_units_same stream_of (λ v. eqb v u) l m a refl refl

pub trims_in_same : (l m : List Role) (u : ℕ) → IsAlike l m → trims_in u m ≡ trims_in u l
unfolding trims_in in_unit
trims_in_same l m u a = in_units_same trim_of (λ v. eqb v u) l m a refl refl

trims_before_same : (l m : List Role) (u : ℕ) → IsAlike l m → trims_before u m ≡ trims_before u l
unfolding trims_before before_unit
trims_before_same l m u a = in_units_same trim_of (λ v. ltb v u) l m a refl refl

blocks_in_same : (l m : List Role) (u : ℕ) → IsAlike l m → blocks_in u m ≡ blocks_in u l
unfolding blocks_in in_unit
blocks_in_same l m u a = ap (λ (bs : List BlockRole). map (λ b. b.id) bs) (in_units_same block_of (λ v. eqb v u) l m a refl refl)

pub complete_same : (l m : List Role) (u : ℕ) → IsAlike l m → is_complete u m ≡ is_complete u l
unfolding is_complete
complete_same l m u a = rw (streams_in_same l m u a, substreams_same l m a) refl

-- ---- the time of blocks

blocks_add_none : (l : List Role) (id : ℕ) (p : ℕ × Role) → counts_in p ≡ false → block_in l id p ≡ []
blocks_add_none l id (u, Ignored) h = refl
blocks_add_none l id (u, Delimiter) h = refl
blocks_add_none l id (u, _) h = absurd cc

durations_same : (l m : List Role) (b : BlockRole) → IsAlike l m → duration_of m b ≡ duration_of l b
unfolding duration_of
durations_same l m b a = rw (definitions_same l m a) refl

block_same : (l m : List Role) (id : ℕ) (p : ℕ × Role) → IsAlike l m → block_in m id p ≡ block_in l id p
block_same l m id (u, ParameterBlock b) a = ap (λ n. cond (eqb b.id id) ((u, n) ∷ []) []) (durations_same l m b a)
block_same l m id (u, _) a = refl

blocks_same : (l m : List Role) (id : ℕ) (ps : List (ℕ × Role)) → IsAlike l m → flat_map (block_in m id) ps ≡ flat_map (block_in l id) ps
blocks_same l m id [] a = refl
blocks_same l m id (p ∷ ps) a = ap₂ (λ (xs ys : List (ℕ × ℕ)). xs ++ ys) (block_same l m id p a) (blocks_same l m id ps a)

block_end_same : (l m : List Role) (id : ℕ) → IsAlike l m → block_end id m ≡ block_end id l
unfolding block_end
block_end_same l m id a =
    ap₂ (λ (n : ℕ) (bs : List (ℕ × ℕ)). fold (end_after n) 0 bs) (frame_length_same l m a)
    (blocks_same l m id (placed m) a ∙ same_filtered counts_in (block_in l id) (blocks_add_none l id) (placed m) (placed l) a.placed_same)

late_same : (l m : List Role) (u id : ℕ) (shape : Option Shape) → IsAlike l m → is_late m u id shape ≡ is_late l u id shape
late_same l m u id None a = refl
late_same l m u id (Some (MixGain rate fixed)) a = rw (codecs_same l m a, frame_length_same l m a, block_end_same l m id a) refl
late_same l m u id (Some (Demixing rate fixed)) a = rw (blocks_in_same l m u a) refl
late_same l m u id (Some (ReconGain rate fixed layers flags)) a = rw (blocks_in_same l m u a) refl

-- ---- faults

bad_trim_same : (l m : List Role) (u : ℕ) (trim : Trim) → IsAlike l m → has_bad_trim m u trim ≡ has_bad_trim l u trim
bad_trim_same l m u trim a = rw (frame_length_same l m a, trims_in_same l m u a, trims_before_same l m u a) refl

pub block_fault_same : (l m : List Role) (b : BlockRole) → IsAlike l m → unit_after m (ParameterBlock b) ≡ unit_after l (ParameterBlock b) → fault_after m (ParameterBlock b) ≡ fault_after l (ParameterBlock b)
unfolding fault_after
block_fault_same l m b a unit =
    rw (unit, definitions_same l m a) (ap (λ late. first_of (when late BlockTime ∷ [])) (late_same l m (unit_after l (ParameterBlock b)) b.id (shape_of (definitions l) b.id) a))

pub frame_fault_same : (l m : List Role) (f : FrameRole) → IsAlike l m → unit_after m (AudioFrame f) ≡ unit_after l (AudioFrame f) → fault_after m (AudioFrame f) ≡ fault_after l (AudioFrame f)
unfolding fault_after
frame_fault_same l m f a unit =
    rw (unit, bad_trim_same l m (unit_after l (AudioFrame f)) f.trim a, substreams_same l m a, streams_in_same l m (unit_after l (AudioFrame f)) a, codecs_same l m a, channels_same l m f.substream a) refl

-- of descriptors
pub descriptor_fault_same : (l m : List Role) (o : Role) → IsAlike l m → is_data o ≡ false → fault_after m o ≡ fault_after l o
unfolding fault_after
descriptor_fault_same l m (CodecConfig c) a h = rw (codecs_same l m a) refl
descriptor_fault_same l m (AudioElement e) a h = rw (elements_same l m a, substreams_same l m a, codecs_same l m a, definitions_same l m a) refl
descriptor_fault_same l m (MixPresentation x) a h = rw (mixes_same l m a, elements_same l m a, definitions_same l m a) refl
descriptor_fault_same l m Delimiter a h = absurd cc
descriptor_fault_same l m (ParameterBlock b) a h = absurd cc
descriptor_fault_same l m (AudioFrame f) a h = absurd cc
descriptor_fault_same l m _ a h = refl
