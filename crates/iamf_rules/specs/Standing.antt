-- What is kept of a list of roles: each part equals the same computed from the list.
use Rattle.std.specs.Prelude.{◌≡◌, ℕ, ◌+◌, ◌^◌, ◌≤◌, ◌<◌, ◌==◌, nat_lt, Bool, true, false, not, if◌then◌else◌, List, [], ◌∷◌, map, length, find, Option, Some, None, is_some}
use Rattle.std.specs.List.{list_any}
use Rattle.std.specs.Option.{option_map}
use Rattle.std.specs.Ordering.{nat_cmp}
use Rattle.std.specs.BTreeMap.{BTreeMap, get, btree_map_len}
use Rattle.std.specs.BTreeSet.{btree_set_len}
use Rattle.spec_obu.specs.declared.trim.Trim.{Trim}
use Rattle.spec_blocks.specs.Shape.{Definition, Shape, MixGain, Demixing, ReconGain, shape_of}
use Rattle.spec_values.specs.declared.fault.Fault.{Fault}
use Rattle.spec_rules.specs.Role.{Role}
use Rattle.spec_rules.specs.Descriptors.{rank, profiles, codecs, elements, mixes, substreams, frame_length, definitions, channels_of}
use Rattle.spec_rules.specs.Profile.{has_fit}
use Rattle.spec_rules.specs.Units.{contains, is_none_of, is_data, is_delimiter, frames_of, open_unit, in_unit, streams_in, trims_in, trims_before, blocks_in, block_end}
use Rattle.spec_rules.specs.Rules.{keeps, cuts, rate_of, element_ids, repeated, unknown, clashing}
use Rattle.spec_rules.specs.Admitted.{IsAdmitted}
use Rattle.spec_rules.specs.Samples.{kept_up_to}
use Rattle.iamf_rules.specs.declared.descriptors.Descriptors.{Descriptors}
use Rattle.iamf_rules.specs.declared.substreams.Slot.{Slot}
use Rattle.iamf_rules.specs.declared.open_unit.OpenUnit.{OpenUnit}
use Rattle.iamf_rules.specs.declared.blocks.Blocks.{Blocks}
use Rattle.iamf_rules.specs.declared.rules.Rules.{Rules}
use Rattle.iamf_rules.specs.Finding.{HasAll, HasIds}
use Rattle.iamf_rules.specs.Totals.{HasTotals}
use Rattle.iamf_rules.specs.DescriptorSteps.{profile_list, codec_list}
use Rattle.iamf_rules.specs.BlockSteps.{no_block, slot_at}
use Rattle.iamf_rules.specs.RulesSteps.{or_else}

abbrev pub mix_ids : List Role → List ℕ
mix_ids l = map (λ m. m.id) (mixes l)

pub record KeepsDescriptors (d : Descriptors) (l : List Role) : Type 0 where
  pub profile : profile_list d.profile ≡ profiles l
  pub rank_is : (r : ℕ) → list_any (λ o. nat_lt r (rank o)) l ≡ nat_lt r d.rank
  pub codec : codec_list d.codec ≡ codecs l
  pub short : frame_length l < 2 ^ 16
  pub elements_are : HasAll d.elements (element_ids l)
  pub element_count : btree_map_len d.elements ≡ length (elements l)
  pub totals : HasTotals d.elements (elements l)
  pub mixes_are : HasIds d.mixes (mix_ids l)
  pub mix_count : btree_set_len d.mixes ≡ length (mixes l)
  pub fit : d.has_fit ≡ has_fit l

abbrev pub slot_in : List Role → ℕ → Option Slot
slot_in l s = if contains (substreams l) s then Some (record { channels = channels_of l s; frames = frames_of l s }) else None

pub record KeepsSubstreams (slots : BTreeMap ℕ Slot) (l : List Role) : Type 0 where
  pub each : (s : ℕ) → get nat_cmp slots s ≡ slot_in l s
  pub count : btree_map_len slots ≡ length (substreams l)

-- trims that are all alike: a test that one of them passes is one that this one passes
abbrev pub AreTrims : Option Trim → List Trim → Type 0
AreTrims None ts = ts ≡ []
AreTrims (Some trim) ts = (test : Trim → Bool) → list_any test ts ≡ test trim

-- what is kept of the units of a list where unit u is open
pub record KeepsUnitAt (a : OpenUnit) (l : List Role) (u : ℕ) : Type 0 where
  pub delimited : a.delimited ≡ option_map is_delimiter (find is_data l)
  pub number : a.number ≡ u
  pub begun : a.begun ≡ not (is_none_of (in_unit u l))
  pub frames : a.frames ≡ length (streams_in u l)
  pub few : a.frames ≤ length l
  pub trim : AreTrims a.trim (trims_in u l)
  pub kept : nat_lt 0 a.samples ≡ list_any (keeps (frame_length l)) (trims_before u l)
  pub samples : a.samples ≡ kept_up_to l u
  pub cut : a.cut ≡ list_any cuts (trims_before u l)

abbrev pub KeepsUnit : OpenUnit → List Role → Type 0
KeepsUnit a l = KeepsUnitAt a l (open_unit l)

-- whether blocks of a parameter of this shape are placed in time, where the samples have the rate
abbrev pub is_timed : ℕ → Option Shape → Bool
is_timed rate None = false
is_timed rate (Some (MixGain parameter_rate fixed)) = parameter_rate == rate
is_timed rate (Some (Demixing parameter_rate fixed)) = false
is_timed rate (Some (ReconGain parameter_rate fixed layers flags)) = false

abbrev pub timed_in : List Role → ℕ → Bool
timed_in l id = is_timed (rate_of (codecs l)) (shape_of (definitions l) id)

-- what is kept of the blocks of a list where unit u is open
pub record KeepsBlocksAt (b : Blocks) (l : List Role) (u : ℕ) : Type 0 where
  pub definitions_are : b.definitions ≡ definitions l
  pub has : (id : ℕ) → is_some (get nat_cmp b.slots id) ≡ is_some (shape_of (definitions l) id)
  pub came : (id : ℕ) → is_some (shape_of (definitions l) id) ≡ true → contains (blocks_in u l) id ≡ nat_lt u (slot_at b.slots id).units
  pub within : (id : ℕ) → (slot_at b.slots id).units ≤ u + 1
  pub ends : (id : ℕ) → timed_in l id ≡ true → (slot_at b.slots id).end ≡ block_end id l
  pub idle : (id : ℕ) → timed_in l id ≡ false → (slot_at b.slots id).end ≡ 0
  pub none : list_any is_data l ≡ false → (id : ℕ) → slot_at b.slots id ≡ no_block

abbrev pub KeepsBlocks : Blocks → List Role → Type 0
KeepsBlocks b l = KeepsBlocksAt b l (open_unit l)

-- The rules stand for a list that is admitted.
pub record Stands (a : Rules) (l : List Role) : Type 0 where
  pub admitted : IsAdmitted l
  pub few : length l ≤ 2 ^ 40
  pub descriptors : KeepsDescriptors a.descriptors l
  pub substreams : KeepsSubstreams a.substreams.slots l
  pub unit : KeepsUnit a.unit l
  pub blocks : KeepsBlocks a.blocks l

-- what is tested of an element and of a mix
abbrev pub element_tests : List Role → ℕ → ℕ → List ℕ → List Definition → Option Fault
element_tests l id codec ids ds =
    or_else (repeated (element_ids l) (id ∷ [])) (or_else (repeated (substreams l) ids) (or_else (unknown (map (λ c. c.id) (codecs l)) (codec ∷ [])) (clashing (definitions l) ds)))

abbrev pub mix_tests : List Role → ℕ → List ℕ → List Definition → Option Fault
mix_tests l id ids ds = or_else (repeated (mix_ids l) (id ∷ [])) (or_else (unknown (element_ids l) ids) (clashing (definitions l) ds))
